-- Laws on what is put at a place.
use Prim.Native.Nat.{ℕ, zero, suc, ◌+◌, ◌-◌, ◌≤◌, ◌<◌, min}
use mathlib.Core.Path.{◌≡◌, refl, sym, ap, ◌∙◌}
use mathlib.Core.List.{List, [], ◌∷◌, ◌++◌}
use native.Mathlib.Nat.{zero-add, suc-add}
use native.Mathlib.Omega.{arith}
use mathlib.Core.Bool.{Bool, true, false}
use lib.Dec.{leb}
use borrow.Author.Tests.{leb-true, leb-false}
use lib.Seq.{length-take-le}
use lib.ListN.{length, take, drop, set, take-append-drop}
use borrow.Rule.Slice.PartMut.{put_mid}
use Rattle.std.proofs.lemmas.Slice.{take-put_mid, drop-put_mid}
use Rattle.definitions.specs.Lists.{over, Letters}
use Rattle.spelling.specs.Writing.{over_at, farthest, last_place, Put}

module _ {A : Type 0} where
  over_none : (s : List A) (l : List A) → length s ≡ 0 → over l s ≡ s
  over_none [] [] e = refl
  over_none [] (a ∷ l) e = refl
  over_none (b ∷ s) l e = absurd (omega arith)

  pub over_nothing : (p : ℕ) (s : List A) → over_at p [] s ≡ s
  unfolding over_at
  over_nothing zero s = refl
  over_nothing (suc p) [] = refl
  over_nothing (suc p) (b ∷ s) = ap (λ r. b ∷ r) (over_nothing p s)

  pub over-front : (l s : List A) → over_at 0 l s ≡ over l s
  unfolding over_at
  over-front l s = refl

  pub length_over : (p : ℕ) (l s : List A) → length (over_at p l s) ≡ length s
  unfolding over_at
  length_over zero [] s = refl
  length_over zero (a ∷ l) [] = refl
  length_over zero (a ∷ l) (b ∷ s) = ap suc (length_over zero l s)
  length_over (suc p) l [] = refl
  length_over (suc p) l (b ∷ s) = ap suc (length_over p l s)

  -- past the end nothing is written
  pub over-past : (p : ℕ) (l s : List A) → length s ≤ p → over_at p l s ≡ s
  unfolding over_at
  over-past zero l s h = over_none s l (omega arith)
  over-past (suc p) l [] h = refl
  over-past (suc p) l (b ∷ s) h = ap (λ r. b ∷ r) (over-past p l s (omega arith))

  -- what stands before, then the list over the rest
  pub over-parts : (p : ℕ) (l s : List A) → over_at p l s ≡ take p s ++ over l (drop p s)
  unfolding over_at
  over-parts zero l s = refl
  over-parts (suc p) [] [] = refl
  over-parts (suc p) (a ∷ l) [] = refl
  over-parts (suc p) l (b ∷ s) = ap (λ r. b ∷ r) (over-parts p l s)

  -- one byte is a store
  pub over-set : (p : ℕ) (a : A) (s : List A) → over_at p (a ∷ []) s ≡ set s p a
  unfolding over_at
  over-set zero a [] = refl
  over-set zero a (b ∷ s) = refl
  over-set (suc p) a [] = refl
  over-set (suc p) a (b ∷ s) = ap (λ r. b ∷ r) (over-set p a s)

  over-then-0 : (a b s : List A) → over_at (length a) b (over a s) ≡ over (a ++ b) s
  unfolding over_at
  over-then-0 [] b s = refl
  over-then-0 (x ∷ a) b [] = refl
  over-then-0 (x ∷ a) b (y ∷ s) = ap (λ r. x ∷ r) (over-then-0 a b s)

  -- one part, then another behind it
  pub over-then : (p : ℕ) (a b s : List A) → over_at (p + length a) b (over_at p a s) ≡ over_at p (a ++ b) s
  unfolding over_at
  over-then zero a b s = rw (zero-add (length a)) (over-then-0 a b s)
  over-then (suc p) a b [] = rw (suc-add p (length a))
  over-then (suc p) a b (y ∷ s) = rw (suc-add p (length a)) (ap (λ r. y ∷ r) (over-then p a b s))

  -- what stands within and behind
  pub over-within : (p : ℕ) (l s : List A) → p + length l ≤ length s → take (length l) (drop p (over_at p l s)) ≡ l
  unfolding over_at
  over-within zero [] s h = refl
  over-within zero (a ∷ l) [] h = absurd (omega arith)
  over-within zero (a ∷ l) (b ∷ s) h = ap (λ r. a ∷ r) (over-within zero l s (omega arith))
  over-within (suc p) l [] h = absurd (omega arith)
  over-within (suc p) l (b ∷ s) h = over-within p l s (omega arith)

  pub over-behind : (n p : ℕ) (l s : List A) → p + length l ≤ n → drop n (over_at p l s) ≡ drop n s
  unfolding over_at
  over-behind zero zero [] s h = refl
  over-behind zero zero (a ∷ l) s h = absurd (omega arith)
  over-behind zero (suc p) l s h = absurd (omega arith)
  over-behind (suc n) zero [] s h = refl
  over-behind (suc n) zero (a ∷ l) [] h = refl
  over-behind (suc n) zero (a ∷ l) (b ∷ s) h = over-behind n zero l s (omega arith)
  over-behind (suc n) (suc p) l [] h = refl
  over-behind (suc n) (suc p) l (b ∷ s) h = over-behind n p l s (omega arith)

  -- a text that fits, put at p behind the first p
  pub over-take : (p : ℕ) (l s : List A) → p + length l ≤ length s → take (p + length l) (over_at p l s) ≡ take p s ++ l
  unfolding over_at
  over-take zero l s h = rw (zero-add (length l)) (over-within zero l s h)
  over-take (suc p) l [] h = absurd (omega arith)
  over-take (suc p) l (b ∷ s) h = rw (suc-add p (length l)) (ap (λ r. b ∷ r) (over-take p l s (omega arith)))

  -- a text is put as far as the bytes reach
  over-front-some : (n : ℕ) (l s : List A) → n ≡ min (length l) (length s) → over (take n l) s ≡ over l s
  over-front-some zero [] s h = refl
  over-front-some (suc n) [] s h = refl
  over-front-some zero (a ∷ l) [] h = refl
  over-front-some zero (a ∷ l) (b ∷ s) h = absurd (omega arith)
  over-front-some (suc n) (a ∷ l) [] h = absurd (omega arith)
  over-front-some (suc n) (a ∷ l) (b ∷ s) h = ap (λ r. a ∷ r) (over-front-some n l s (omega arith))

  over-some : (p n : ℕ) (l s : List A) → p ≤ length s → n ≡ min (length l) (length s - p) → over_at p (take n l) s ≡ over_at p l s
  unfolding over_at
  over-some zero n l s k h = over-front-some n l s (omega arith)
  over-some (suc p) n l [] k h = refl
  over-some (suc p) n l (b ∷ s) k h = ap (λ r. b ∷ r) (over-some p n l s (omega arith) (omega arith))

  same-parts : (n : ℕ) (x y : List A) → take n x ≡ take n y → drop n x ≡ drop n y → x ≡ y
  same-parts n x y e f = sym (take-append-drop n x) ∙ rw (e, f) (take-append-drop n y)

  -- the part that fits, copied
  pub over-copied : (p n k : ℕ) (l s t : List A) → p ≤ length s → n ≡ min (length l) (length s - p) → k ≡ n → t ≡ take n l → put_mid p k s t ≡ over_at p l s
  over-copied p n k l s t h e f g =
      let u : length (take n l) ≡ n = length-take-le n l (omega arith) in
      let v : length t ≡ n = ap length g ∙ u in
      let a : take (p + n) (put_mid p k s t) ≡ take p s ++ take n l = take-put_mid p k s t (p + n) (omega arith) h ∙ ap (λ x. take p s ++ x) g in
      let b : take (p + n) (over_at p (take n l) s) ≡ take p s ++ take n l = ap (λ i. take (p + i) (over_at p (take n l) s)) (sym u) ∙ over-take p (take n l) s (omega arith) in
      let c : drop (p + n) (put_mid p k s t) ≡ drop (p + n) s = drop-put_mid p k s t (p + n) (omega arith) h (omega arith) in
      same-parts (p + n) (put_mid p k s t) (over_at p (take n l) s) (a ∙ sym b) (c ∙ sym (over-behind (p + n) p (take n l) s (omega arith))) ∙ over-some p n l s h e

-- a place that does not go on stands past the end
module _ {A : Type 0} where
  pub past : (q r : ℕ) (b s : List A) → length s ≤ last_place → q ≡ min r last_place → over_at q b s ≡ over_at r b s
  past q r b s h e = go (leb r last_place) refl
    where
      go : (t : Bool) → leb r last_place ≡ t → over_at q b s ≡ over_at r b s
      go true f = let g : q ≡ r = omega (arith, leb-true r last_place f) in ap (λ k. over_at k b s) g
      go false f =
          let g : last_place < r = leb-false r last_place f in
          over-past q b s (omega arith) ∙ sym (over-past r b s (omega arith))

-- a text put at the front is the front, as far as the bytes reach
pub put-over : {l : Letters} {q : ℕ} {s s₁ : List ℕ} → Put l 0 s q s₁ → s₁ ≡ over l s
put-over {l} {q} {s} u = u.bytes ∙ over-front l s

-- the place after a text at the front is its length
pub put-measure : {l : Letters} {q : ℕ} {s s₁ : List ℕ} → length l ≤ farthest → Put l 0 s q s₁ → q ≡ length l
put-measure h u = omega (arith, u.place)

-- a text that fits, at the front, can be read there
pub put_front : {l : Letters} {q : ℕ} {s s₁ : List ℕ} → length l ≤ length s → length s ≤ farthest → Put l 0 s q s₁ → take q s₁ ≡ l
put_front {l} {q} {s} {s₁} h k u =
    let e : q ≡ 0 + length l = omega (arith, u.place) in
    let f : 0 + length l ≤ length s = omega arith in
    rw (e, u.bytes) (over-take 0 l s f)

-- the place and the bytes by another name, as those behind a reference when what held it ends
pub put-held : {l : Letters} {p q r : ℕ} {s s₁ s₂ : List ℕ} → r ≡ q → s₂ ≡ s₁ → Put l p s q s₁ → Put l p s r s₂
put-held e f u = record { place = e ∙ u.place; bytes = f ∙ u.bytes }
