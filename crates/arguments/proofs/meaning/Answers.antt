-- `arguments::meaning` meets its contract. Assumes nothing.
use Rattle.std.proofs.Common.{ℕ, ◌≡◌, ◌∙◌, ap, sym, Bool, true, false}
use Rattle.std.specs.Str.{bytes_eq}
use Rattle.definitions.specs.Lists.{choose, same_letters, Letters, bytes}
use Rattle.parts.proofs.NamesLaws.{same_bytes}
use Rattle.arguments.specs.declared.Asked.{Asked}
use Rattle.arguments.specs.Words.{word_of}
use Rattle.arguments.proofs.meaning.Goals as goal

-- what `==` of a word and these letters tells
help : (w l k : Letters) (r : Bool) (n : Asked ℕ) → k ≡ l → r ≡ bytes_eq w k → r ≡ true → Asked.Help ≡ choose (same_letters w l) Asked.Help n
help w l k r n i e h = rw (← i, ← same_bytes w k, ← e, h)

other : (w l k : Letters) (r : Bool) (n : Asked ℕ) → k ≡ l → r ≡ bytes_eq w k → r ≡ false → n ≡ choose (same_letters w l) Asked.Help n
other w l k r n i e h = rw (← i, ← same_bytes w k, ← e, h)

pub returns-then-eq : goal.returns-then-eq
unfolding bytes
returns-then-eq c = help c.args.word.now _ _ _ _ c.as_slice.ensures c.eq.ensures c.if-eq.true

pub returns-in-Some : goal.returns-in-Some
unfolding bytes
returns-in-Some c = ap word_of (sym c.in-Some.is ∙ c.number.ensures) ∙ other c.args.word.now _ _ _ _ c.as_slice.ensures c.eq.ensures c.if-eq.false

pub returns-in-None : goal.returns-in-None
unfolding bytes
returns-in-None c = ap word_of (sym c.in-None.is ∙ c.number.ensures) ∙ other c.args.word.now _ _ _ _ c.as_slice.ensures c.eq.ensures c.if-eq.false
