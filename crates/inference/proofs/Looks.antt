-- A look at a stretch of tokens for a name whose clock changed late.
-- Assumes nothing.
use Prim.Native.Nat.{ℕ, ◌+◌, ◌-◌, ◌≤◌, ◌<◌, min}
use mathlib.Core.Path.{◌≡◌, ◌∙◌, ap, ap₂, subst}
use mathlib.Core.List.{List}
use mathlib.Core.Bool.{Bool, true, false}
use native.Mathlib.Omega.{arith}
use lib.ListN.{length, get_or, take, drop}
use Rattle.std.specs.Bool.{MatchBool}
use Rattle.std.specs.List.{AllWithin, zip}
use Rattle.std.proofs.lemmas.List.{get_or-take, get_or-drop, length-take, length-drop}
use Rattle.std.proofs.lemmas.Slice.Zip.{get_or-zip, length-zip}
use Rattle.inference.specs.Settled.{named, Unchanged, Quiet}

-- the tokens from one place up to another
abbrev pub cut : List ℕ → ℕ → ℕ → List ℕ
cut l start end = take (end - start) (drop start l)

cut-at : (l : List ℕ) (start end i : ℕ) → start ≤ i → i < end → get_or (cut l start end) (i - start) 0 ≡ get_or l i 0
cut-at l start end i h k =
    let e : start + (i - start) ≡ i = omega arith in
    get_or-take (end - start) (drop start l) (i - start) 0 (omega arith) ∙ (get_or-drop start l (i - start) 0 ∙ ap (λ j. get_or l j 0) e)

length-cut : (l : List ℕ) (start end : ℕ) → end ≤ length l → length (cut l start end) ≡ end - start
length-cut l start end h = omega (arith, length-take (end - start) (drop start l), length-drop start l)

-- where a name's clock changed late, it is not so of one of them
abbrev pub Early : List ℕ → ℕ → ℕ × ℕ → Type 0
Early since made p = named p.0 ≡ true → Unchanged since made p.1

pub quiet-of : (gs vs since : List ℕ) (made from to start end : ℕ) → length vs ≡ length gs → 0 < made → end ≡ min to (length gs) → start ≡ min from end
    → (r : Bool) (A : Type 0) → MatchBool r A (AllWithin (Early since made) (zip (cut gs start end) (cut vs start end)) 0 (length (zip (cut gs start end) (cut vs start end)))) → r ≡ false → Quiet gs vs since made from to
quiet-of gs vs since made from to start end same later e f r A m z =
    let ks = cut gs start end in
    let ws = cut vs start end in
    let w : AllWithin (Early since made) (zip ks ws) 0 (length (zip ks ws)) = subst (λ (b : Bool). MatchBool b A (AllWithin (Early since made) (zip ks ws) 0 (length (zip ks ws)))) z m in
    let few : end ≤ length gs = omega (arith, e) in
    let n = length-cut gs start end few in
    let o = length-cut vs start end (omega (arith, few, same)) in
    record {
      later = later;
      settled = λ i h k l t.
          let first : start ≤ i = omega (arith, e, f, h) in
          let last : i < end = omega (arith, e, k, l) in
          let pair : get_or (zip ks ws) (i - start) (0, 0) ≡ (get_or gs i 0, get_or vs i 0) =
          get_or-zip ks ws (i - start) (0, 0) (omega (arith, n, first, last)) (omega (arith, o, first, last)) ∙ ap₂ (λ (x y : ℕ). (x, y)) (cut-at gs start end i first last) (cut-at vs start end i first last) in
          subst (Early since made) pair (w (i - start) (0, 0) (omega arith) (omega (arith, length-zip ks ws, n, o, first, last))) t;
    }
