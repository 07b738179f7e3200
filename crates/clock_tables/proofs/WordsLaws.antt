-- Laws of a word that is a place and one more.
-- Assumes nothing.
use mathlib.Core.Path.{◌≡◌, refl, sym, ◌∙◌, ap}
use mathlib.Core.Bool.{Bool, true, false}
use mathlib.Core.List.{List}
use Prim.Native.Nat.{ℕ, ◌-◌, ◌<◌}
use native.Mathlib.Omega.{arith}
use lib.Dec.{eqb}
use lib.ListN.{get_or}
use borrow.Author.Tests.{ne_eqb, eqb-true, eqb-false}
use Rattle.std.proofs.Common.{Some, None}
use Rattle.std.specs.declared.option.Option as code
use Rattle.definitions.specs.Lists.{choose}
use Rattle.clock_tables.specs.Words.{place_of}

-- it says the place before it
pub place-before : (w i : ℕ) → 0 < w → i ≡ w - 1 → Some i ≡ place_of w
place-before w i h e = rw (ne_eqb w 0 (omega (arith, h)), e)

-- a word that says none
pub none-said : (w : ℕ) (r : code.Option ℕ) → r ≡ place_of w → r ≡ None → w ≡ 0
none-said w r e h = go (eqb w 0) refl (sym h ∙ e)
  where
    go : (b : Bool) → eqb w 0 ≡ b → None ≡ choose b None (Some (w - 1)) → w ≡ 0
    go true q k = eqb-true w 0 q
    go false q k = absurd cc

-- a word that says a place
place-said : (w i : ℕ) (r : code.Option ℕ) → r ≡ place_of w → r ≡ Some i → (w ≡ 0 → ⊥) × (i ≡ w - 1)
place-said w i r e h = go (eqb w 0) refl (sym h ∙ e)
  where
    go : (b : Bool) → eqb w 0 ≡ b → Some i ≡ choose b None (Some (w - 1)) → (w ≡ 0 → ⊥) × (i ≡ w - 1)
    go true q k = absurd cc
    go false q k = (eqb-false w 0 q, cc)

-- the item in the row that a word says
pub item-said : (l : List ℕ) (w i x : ℕ) (r : code.Option ℕ) → r ≡ place_of w → r ≡ Some i → x ≡ get_or l i 0 → (w ≡ 0 → ⊥) × (x ≡ get_or l (w - 1) 0)
item-said l w i x r e h v = let s = place-said w i r e h in (s.0, v ∙ ap (λ (j : ℕ). get_or l j 0) s.1)
