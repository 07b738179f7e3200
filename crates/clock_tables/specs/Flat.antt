-- A clock in seventeen words of a table.
use Rattle.std.specs.Prelude.{ℕ, zero, suc, ◌+◌, ◌-◌, List, [], ◌∷◌, ◌++◌, get_or, take, drop, replicate, eqb}
use Rattle.definitions.specs.declared.Test.{Test}
use Rattle.definitions.specs.declared.Condition.{Condition}
use Rattle.definitions.specs.Lists.{choose, over}
use Rattle.definitions.specs.Clock.{Clock, base, ◌↓◌, depth}
use Rattle.clock_tables.specs.Value.{capped, clock_at}

-- a test as a word, and back: 1 is on
abbrev pub word_of : Test → ℕ
word_of Test.On = 1
word_of Test.Not = 0

abbrev pub test_of : ℕ → Test
test_of w = choose (eqb w 1) Test.On Test.Not

-- the condition in the two words at p
abbrev pub condition_at : List ℕ → ℕ → Condition
condition_at t p = record { name = get_or t p 0; test = test_of (get_or t (p + 1) 0) }

-- n conditions from p on
unfoldable pub conditions_from : List ℕ → ℕ → ℕ → List Condition
conditions_from t p zero = []
conditions_from t p (suc n) = condition_at t p ∷ conditions_from t (p + 2) n

-- the number of conditions of the clock at b
abbrev pub depth_in : List ℕ → ℕ → ℕ
depth_in t b = capped (get_or t b 0 - 1)

-- the clock at b
abbrev pub clock_in : List ℕ → ℕ → Clock
clock_in t b = clock_at (conditions_from t (b + 1) 8) (depth_in t b)

-- the words of a clock's conditions, two each, from base outward
unfoldable pub condition_words : Clock → List ℕ
condition_words base = []
condition_words (c ↓ k) = condition_words c ++ (k.name ∷ word_of k.test ∷ [])

-- the words of a clock: one more than the number of its conditions, then theirs
abbrev pub words_of : Clock → List ℕ
words_of c = suc (depth c) ∷ condition_words c

-- a clock in seventeen words: its own, then zeros
unfoldable pub clock_words : Clock → List ℕ
unfolding condition_words
clock_words c = over (words_of c) (replicate 17 0)

-- a table with this clock in the seventeen words from place b on
abbrev pub with_clock : ℕ → Clock → List ℕ → List ℕ
with_clock b c t = take b t ++ over (clock_words c) (drop b t)
