-- What words ask for; numbers in decimal.
use Rattle.std.specs.Prelude.{ℕ, ◌+◌, ◌*◌, ◌-◌, min, [], ◌∷◌, Option, None, Some}
use Rattle.definitions.specs.Lists.{choose, all, same_letters, Letters, bytes}
use Rattle.definitions.specs.Bytes.{is_digit}
use Rattle.arguments.specs.declared.Asked.{Asked}

-- numbers are told apart up to here
abbrev pub most : ℕ
most = 1000000000000000000

-- the number that digits write behind a number
abbrev pub written : ℕ → Letters → ℕ
written n [] = n
written n (d ∷ w) = written (n * 10 + (d - 48)) w

-- a word's number, if it is one: it has a digit, and nothing but digits
abbrev pub number_of : Letters → Option ℕ
number_of [] = None
number_of (d ∷ w) = choose (all is_digit (d ∷ w)) (Some (min (written 0 (d ∷ w)) most)) None

-- what a word that asks for no help says
abbrev pub word_of : Option ℕ → Asked ℕ
word_of None = Asked.Other
word_of (Some n) = Asked.For n

-- what a word says
abbrev pub meaning_of : Letters → Asked ℕ
meaning_of w = choose (same_letters w (bytes "--help")) Asked.Help (word_of (number_of w))

-- what one word says to a program that takes one number, or none
abbrev pub number_asked : Asked ℕ → Asked (Option ℕ)
number_asked Asked.Help = Asked.Help
number_asked (Asked.For n) = Asked.For (Some n)
number_asked Asked.Other = Asked.Other

-- what its words ask for: two are not understood
abbrev pub optional_number : Option (Asked ℕ) → Option (Asked ℕ) → Asked (Option ℕ)
optional_number None None = Asked.For None
optional_number (Some w) None = number_asked w
optional_number w (Some v) = Asked.Other
