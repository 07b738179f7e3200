-- The first when, merge, or name that passes a test among the tokens of a stretch.
use Rattle.std.specs.Prelude.{ℕ, ◌+◌, List, Bool, true, false, eqb, ltb, leb, get_or}
use Rattle.std.proofs.Math.Option.{Option, none, some}
use Rattle.definitions.specs.Lists.{choose}
use Rattle.definitions.specs.Tokens.{given}

-- "67 when(id), 68 when-not(id), 69 merge(id)"
unfoldable pub is_sample : ℕ → Bool
is_sample tag = choose (ltb tag 67) false (leb tag 69)

-- a name, or such a token
pub data Mark : Type 0 where
  named : ℕ → Mark
  sampling : Mark

-- what a token is: "54 var(id)" of a name that passes the test, a when or a merge, or neither
unfoldable pub mark_of : (ℕ → Bool) → ℕ → ℕ → Option Mark
unfolding is_sample
mark_of test tag v = choose (eqb tag 54) (given (test v) (named v)) (given (is_sample tag) sampling)

-- no name passes
abbrev pub nowhere : ℕ → Bool
nowhere x = false

-- the first of two that is there
abbrev pub first : Option Mark → Option Mark → Option Mark
first none b = b
first (some m) b = some m

-- is there one?
abbrev pub there : Option Mark → Bool
there none = false
there (some m) = true

-- the first mark of the tokens from p up to q
pub data Marks (test : ℕ → Bool) (gs vs : List ℕ) : ℕ → ℕ → Option Mark → Type 0 where
  unmarked : {p : ℕ} → Marks test gs vs p p none
  marked : {p q : ℕ} {b : Option Mark} → Marks test gs vs (p + 1) q b →
      Marks test gs vs p q (first (mark_of test (get_or gs p 0) (get_or vs p 0)) b)
