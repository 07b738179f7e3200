-- Parts that stand one after another: a token, and as many parts behind it as its tag and value say.
use Rattle.std.specs.Prelude.{ℕ, suc, ◌+◌, ◌<◌, List, [], ◌∷◌, eqb, length, get_or}
use Rattle.definitions.specs.Lists.{choose}

-- the parts that follow a tag: a value follows a name, an element an array's type, the high word an int or float, operands or a
-- count an expression's first token
abbrev pub parts : List ℕ
parts =
    0 ∷ 0 ∷ 0 ∷ 0 ∷ 1 ∷ 0 ∷ 0 ∷ 0 ∷ 0 ∷ 0 ∷ 0 ∷ 0 ∷ 0 ∷ 0 ∷ 0 ∷ 0 ∷ 0 ∷ 0 ∷ 0 ∷ 0
    ∷ 0 ∷ 0 ∷ 0 ∷ 0 ∷ 0 ∷ 0 ∷ 0 ∷ 0 ∷ 0 ∷ 0 ∷ 0 ∷ 0 ∷ 1 ∷ 0 ∷ 0 ∷ 0 ∷ 0 ∷ 0 ∷ 0 ∷ 0
    ∷ 0 ∷ 0 ∷ 0 ∷ 0 ∷ 0 ∷ 0 ∷ 0 ∷ 0 ∷ 0 ∷ 0 ∷ 0 ∷ 1 ∷ 1 ∷ 0 ∷ 0 ∷ 1 ∷ 2 ∷ 3 ∷ 1 ∷ 2
    ∷ 1 ∷ 1 ∷ 2 ∷ 1 ∷ 1 ∷ 1 ∷ 2 ∷ 1 ∷ 1 ∷ 2 ∷ 2 ∷ 2 ∷ []

-- as many as a count says follow it
unfoldable pub follows : ℕ → ℕ → ℕ
follows tag v = choose (eqb tag 3) v (get_or parts tag 0)

-- n parts stand from p up to q
pub data Owed (gs vs : List ℕ) : ℕ → ℕ → ℕ → Type 0 where
  paid : {p : ℕ} → Owed gs vs p 0 p
  owes : {p n q : ℕ} → p < length gs → Owed gs vs (p + 1) (n + follows (get_or gs p 0) (get_or vs p 0)) q → Owed gs vs p (suc n) q
