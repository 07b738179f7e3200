-- Bytes put at a place of lent bytes, as far as these reach.
use Rattle.std.specs.Prelude.{ℕ, zero, suc, ◌+◌, min, ◌≡◌, List, [], ◌∷◌, length}
use Rattle.definitions.specs.Lists.{over, Letters}

-- lent, with l written from place p on, as far as lent reaches
unfoldable pub over_at : {A : Type 0} → ℕ → List A → List A → List A
over_at zero l lent = over l lent
over_at (suc p) l [] = []
over_at (suc p) l (b ∷ lent) = b ∷ over_at p l lent

-- places are told up to here, and no further
abbrev pub farthest : ℕ
farthest = 4294967296

-- the last place that there is
abbrev pub last_place : ℕ
last_place = 18446744073709551615

-- l was put at a place of lent: the place after it, as if lent reached, and what lent has become
pub record Put (l : Letters) (at : ℕ) (lent : List ℕ) (next : ℕ) (after : List ℕ) : Type 0 where
  pub place : next ≡ min (at + length l) farthest
  pub bytes : after ≡ over_at at l lent
