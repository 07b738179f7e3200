-- The token at a place of the two arrays.
-- Assumes nothing.
use mathlib.Core.Path.{◌≡◌, refl}
use mathlib.Core.List.{List, [], ◌∷◌}
use mathlib.Core.Option.{none, some}
use Prim.Native.Nat.{ℕ, zero, suc, ◌≤◌, ◌<◌}
use native.Mathlib.Omega.{arith}
use lib.ListN.{length, get_or, get_elem?}
use Rattle.definitions.specs.Bytes.{tokens}

pub tokens-at : (ts vs : List ℕ) (p : ℕ) → length vs ≡ length ts → p < length ts → get_elem? (tokens ts vs) p ≡ some (record { tag = get_or ts p 0; value = get_or vs p 0 })
unfolding tokens
tokens-at [] vs p e h = absurd (omega arith)
tokens-at (t ∷ ts) [] p e h = absurd (omega arith)
tokens-at (t ∷ ts) (v ∷ vs) zero e h = refl
tokens-at (t ∷ ts) (v ∷ vs) (suc p) e h = tokens-at ts vs p (omega arith) (omega arith)

pub tokens-end : (ts vs : List ℕ) (p : ℕ) → length ts ≤ p → get_elem? (tokens ts vs) p ≡ none
unfolding tokens
tokens-end [] vs p h = refl
tokens-end (t ∷ ts) [] p h = refl
tokens-end (t ∷ ts) (v ∷ vs) zero h = absurd (omega arith)
tokens-end (t ∷ ts) (v ∷ vs) (suc p) h = tokens-end ts vs p (omega arith)
