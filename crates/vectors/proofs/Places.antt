-- What is known of where a byte stands.
-- Assumes nothing.
use Rattle.std.specs.Prelude.{Option, Some, None, ◌==◌, nat_lt, cond, position, unwrap_or}
use Rattle.std.specs.List.{position_or_len}
use Rattle.std.proofs.lemmas.List.Recursion.{is_position_or_len}
use mathlib.Core.Path.{◌≡◌, refl, sym, ap, ◌∙◌}
use mathlib.Core.Bool.{Bool, true, false}
use mathlib.Core.List.{[], ◌∷◌}
use Prim.Native.Nat.{ℕ, suc, ◌+◌, ◌≤◌}
use native.Mathlib.Omega.{arith}
use lib.ListN.{length}
use lib.Dec.{eqb}
use borrow.Author.Tests.{ltb-false}
use Rattle.definitions.specs.Lists.{choose, Letters}
use Rattle.vectors.specs.Fields.{place_of}

module _ (x : ℕ) where
  within : (l : Letters) → place_of x l ≤ length l
  within [] = omega arith
  within (b ∷ l) = go (eqb b x) (within l)
    where
      go : (t : Bool) → place_of x l ≤ length l → choose t 0 (suc (place_of x l)) ≤ suc (length l)
      go true h = omega arith
      go false h = omega arith

  -- std's words for the same place
  first : (l : Letters) → place_of x l ≡ position_or_len (λ b. b == x) l
  first = is_position_or_len (place_of x) (λ b. b == x) refl (λ b l. go (eqb b x) (place_of x l))
    where
      go : (t : Bool) (n : ℕ) → choose t 0 (suc n) ≡ cond t 0 (1 + n)
      go true n = refl
      go false n = omega arith

  -- the place that is found, or the end where there is none
  pub placed : (l : Letters) (r : Option ℕ) (n : ℕ) → r ≡ position (λ b. b == x) l → n ≡ unwrap_or r (length l) → (n ≡ place_of x l) × (n ≤ length l)
  placed l r n e f = go (nat_lt (position_or_len (λ b. b == x) l) (length l)) refl
    where
      go : (t : Bool) → nat_lt (position_or_len (λ b. b == x) l) (length l) ≡ t → (n ≡ place_of x l) × (n ≤ length l)
      go true h =
          let at : n ≡ place_of x l = f ∙ ap (λ r. unwrap_or r (length l)) (e ∙ ap (λ t. cond t (Some (position_or_len (λ b. b == x) l)) None) h) ∙ sym (first l) in
          (at, omega (arith, at, within l))
      go false h =
          let at : n ≡ length l = f ∙ ap (λ r. unwrap_or r (length l)) (e ∙ ap (λ t. cond t (Some (position_or_len (λ b. b == x) l)) None) h) in
          (omega (arith, at, within l, first l, ltb-false _ _ h), omega (arith, at))
