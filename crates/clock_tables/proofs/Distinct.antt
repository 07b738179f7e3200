-- Clocks that are added once each: a row's place is its own number.
-- Assumes nothing.
use mathlib.Core.Path.{◌≡◌, refl, sym, ◌∙◌, ap}
use mathlib.Core.List.{List, [], ◌∷◌, ◌++◌}
use mathlib.Core.Bool.{Bool, true, false, ◌||◌}
use Prim.Native.Nat.{ℕ, suc, ◌+◌, ◌*◌, ◌≤◌, ◌<◌}
use native.Mathlib.Omega.{arith}
use lib.ListN.{length, get_or, length-append, get_or-append}
use lib.Seq.{get_or-append_seam}
use lib.Dec.{ltb}
use borrow.Author.Tests.{ltb-true, ltb-false}
use Rattle.definitions.specs.Lists.{choose, any, place_by}
use Rattle.definitions.specs.Clock.{Clock, base, ◌↓◌, same_clock}
use Rattle.definitions.specs.Declock.{clock_place, add, add_with_parents}
use Rattle.shapes.proofs.Facts.{clock-self}
use Rattle.clock_tables.specs.Flat.{clock_in}
use Rattle.clock_tables.specs.Rows.{clocks_in, RowsHold}
use Rattle.std.specs.Prelude.{Some, position}
use Rattle.std.specs.List.{range_with_len}
use Rattle.clock_tables.proofs.RowsLaws.{from_at, length_from, has-own, has_all, place_found}

-- each clock's place is its own
abbrev pub Distinct : List Clock → Type 0
Distinct cs = (j : ℕ) → j < length cs → clock_place (get_or cs j base) cs ≡ j

module _ (p : Clock → Bool) where
  place-front : (l m : List Clock) → place_by p l < length l → place_by p (l ++ m) ≡ place_by p l
  place-front [] m h = absurd (omega arith)
  place-front (a ∷ l) m h = go (p a) (place-front l m) h
    where
      go : (b : Bool) → (place_by p l < length l → place_by p (l ++ m) ≡ place_by p l) → choose b 0 (suc (place_by p l)) < suc (length l) → choose b 0 (suc (place_by p (l ++ m))) ≡ choose b 0 (suc (place_by p l))
      go true r u = refl
      go false r u = ap suc (r (omega arith))

  place-back : (l : List Clock) (c : Clock) → any p l ≡ false → p c ≡ true → place_by p (l ++ (c ∷ [])) ≡ length l
  place-back [] c h e = rw e
  place-back (a ∷ l) c h e = go (p a) (λ u. place-back l c u e) h
    where
      go : (b : Bool) → (any p l ≡ false → place_by p (l ++ (c ∷ [])) ≡ length l) → (b || any p l) ≡ false → choose b 0 (suc (place_by p (l ++ (c ∷ [])))) ≡ suc (length l)
      go true r u = absurd cc
      go false r u = ap suc (r u)

-- the row of a clock that is added: where it is found, or behind the others
module _ (t : List ℕ) (n : ℕ) (c : Clock) (cs : List Clock) where
  pub row-found : (row : ℕ) → Some row ≡ position (λ j. same_clock c (clock_in t (17 * j))) (range_with_len 0 n) → 17 * n ≤ length t → RowsHold t n cs → row ≡ clock_place c cs
  row-found row e l h = place_found t c n (Some row) e ∙ ap (clock_place c) (has_all t n cs l h)

  pub row-behind : (t' : List ℕ) (m : ℕ) → 17 * n ≤ length t → any (same_clock c) (clocks_in t n) ≡ false → (RowsHold t n (clocks_in t n) → RowsHold t' m (clocks_in t n ++ (c ∷ [])))
      → 17 * m ≤ length t' → RowsHold t' m cs → n ≡ clock_place c cs
  row-behind t' m room gone grown l h =
      let e : clocks_in t n ++ (c ∷ []) ≡ cs = sym (has_all t' m _ l (grown (has-own t n room))) ∙ has_all t' m cs l h in
      sym (length_from t 0 n) ∙ sym (place-back (same_clock c) (clocks_in t n) c gone (clock-self c)) ∙ ap (clock_place c) e

pub distinct_none : Distinct []
distinct_none j h = absurd (omega arith)

distinct-last : (c : Clock) (cs : List Clock) → any (same_clock c) cs ≡ false → Distinct cs → Distinct (cs ++ (c ∷ []))
distinct-last c cs gone d j h = go (ltb j (length cs)) refl
  where
    go : (b : Bool) → ltb j (length cs) ≡ b → clock_place (get_or (cs ++ (c ∷ [])) j base) (cs ++ (c ∷ [])) ≡ j
    go true q =
        let l : j < length cs = ltb-true j (length cs) q in
        let e : clock_place (get_or cs j base) cs ≡ j = d j l in
        let m : clock_place (get_or cs j base) cs < length cs = omega arith in
        rw (get_or-append cs (c ∷ []) base j l, place-front (same_clock (get_or cs j base)) cs (c ∷ []) m) e
    go false q =
        let e : j ≡ length cs = omega (arith, ltb-false j (length cs) q, length-append cs (c ∷ [])) in
        rw (e, get_or-append_seam cs c [] base, place-back (same_clock c) cs c gone (clock-self c))

-- adding keeps them so
pub distinct-add : (c : Clock) (cs : List Clock) → Distinct cs → Distinct (add c cs)
distinct-add c cs d = go (any (same_clock c) cs) refl
  where
    go : (b : Bool) → any (same_clock c) cs ≡ b → Distinct (choose b cs (cs ++ (c ∷ [])))
    go true q = d
    go false q = distinct-last c cs q d

pub distinct-parents : (c : Clock) (cs : List Clock) → Distinct cs → Distinct (add_with_parents c cs)
unfolding add_with_parents
distinct-parents base cs d = d
distinct-parents (c ↓ k) cs d = distinct-add (c ↓ k) (add_with_parents c cs) (distinct-parents c cs d)

-- the clock in row i of a table that holds them all has the place i
pub row-place : (t : List ℕ) (n : ℕ) (cs : List Clock) → 17 * n ≤ length t → RowsHold t n cs → Distinct cs → (i : ℕ) → i < n → clock_place (clock_in t (17 * i)) cs ≡ i
row-place t n cs l h d i u =
    let e : clocks_in t n ≡ cs = has_all t n cs l h in
    let m : length cs ≡ n = ap length (sym e) ∙ length_from t 0 n in
    let z : 0 + i ≡ i = omega arith in
    let a : get_or cs i base ≡ clock_in t (17 * i) = ap (λ (x : List Clock). get_or x i base) (sym e) ∙ (from_at t 0 n i u ∙ rw z) in
    rw a at (d i (omega arith))
