-- Laws on where names stand.
use Prim.Native.Nat.{ℕ, zero, suc, ◌+◌, ◌-◌, ◌≤◌, ◌<◌}
use mathlib.Core.Path.{◌≡◌, refl, sym, ap, ◌∙◌, fun_ext}
use mathlib.Core.Bool.{Bool, true, false, ◌&&◌}
use mathlib.Core.List.{List, [], ◌∷◌, map}
use mathlib.Core.Logic.{inl, inr}
use native.Mathlib.Numerals.{add-one}
use native.Mathlib.Omega.{arith}
use lib.Dec.{eqb, leb, ltb}
use lib.ListN.{length, get_or, take, drop, set, replicate, get_or-eq_default}
use lib.Seq.{take-suc, take_all, length-take-le}
use borrow.Author.Tests.{le-leb, lt-leb, leb-true, leb-false, ltb-true, ltb-false}
use Rattle.std.specs.Borrow.{Bor}
use Rattle.std.specs.Option.{unwrap_or}
use Rattle.std.specs.Prelude.{Option, None, Some}
use Rattle.std.specs.Slice.{IsGetRangeResult}
use Rattle.std.proofs.Common.{nat_eq}
use Rattle.std.specs.Cmp.Lexicographic.{pointwise}
use Rattle.std.specs.List.{list_any}
use Rattle.definitions.specs.Lists.{choose, any, over, sum, Letters, same_letters}
use Rattle.definitions.specs.Bytes.{lengths, letters, cut}
use Rattle.definitions.specs.Output.{letters_of}
use Rattle.parts.specs.Answers.{sizes_of, Accepted}
use Rattle.parts.proofs.Laws.{lengths-long, letters-long}
use Rattle.parts.proofs.Cuts.{cut-count}
use Rattle.spelling.specs.Writing.{over_at}
use Rattle.spelling.proofs.Writing.{over_nothing, over-front, over-then, over-set}
use Rattle.parts.specs.Places.{start, name_at}
use Rattle.parts.proofs.NamesLaws.{start-next, start-sum, end-within, part-name, cut-name, start-cons}
use Rattle.spelling.specs.Places.{starts_from, between, letters_at}

-- ---- starts
pub starts-length : (k : ℕ) (lens : List ℕ) → length (starts_from k lens) ≡ length lens + 1
unfolding starts_from
starts-length k [] = refl
starts-length k (n ∷ ns) = omega (arith, starts-length (k + n) ns)

starts-at : (k : ℕ) (lens : List ℕ) (i : ℕ) → i ≤ length lens → get_or (starts_from k lens) i 0 ≡ k + start lens i
unfolding starts_from start
starts-at k [] zero h = omega arith
starts-at k [] (suc i) h = absurd (omega arith)
starts-at k (n ∷ ns) zero h = omega arith
starts-at k (n ∷ ns) (suc i) h = omega (arith, starts-at (k + n) ns i (omega arith), start-cons n ns i)

pub starts-there : (lens : List ℕ) (i : ℕ) → i ≤ length lens → get_or (starts_from 0 lens) i 0 ≡ start lens i
starts-there lens i h = omega (arith, starts-at 0 lens i h)

-- no start is past the sum
pub start-within : (lens : List ℕ) (i : ℕ) → start lens i ≤ sum lens
start-within lens i = omega (arith, start-sum lens i)

-- the starts written one by one
module _ (lens starts : List ℕ) where
  pub fill_none : starts ≡ over_at 0 (take 0 (starts_from 0 lens)) starts
  fill_none = sym (over_nothing 0 starts)

  pub fill_more : (i at : ℕ) (now : List ℕ) → i ≤ length lens → at ≡ start lens i → now ≡ over_at 0 (take i (starts_from 0 lens)) starts
      → set now i at ≡ over_at 0 (take (i + 1) (starts_from 0 lens)) starts
  fill_more i at now h e f =
      let l = starts_from 0 lens in
      let k : i < length l = omega (arith, starts-length 0 lens) in
      let g : 0 + length (take i l) ≡ i = omega (arith, length-take-le i l (omega arith)) in
      let v : get_or l i 0 ≡ at = starts-there lens i h ∙ sym e in
      rw (f, ← over-set i at (over_at 0 (take i l) starts), add-one i, take-suc l i 0 k, v)
      (ap (λ p. over_at p (at ∷ []) (over_at 0 (take i l) starts)) (sym g) ∙ over-then 0 (take i l) (at ∷ []) starts)

  pub fill_end : (i : ℕ) (now : List ℕ) → length lens ≤ i → now ≡ over_at 0 (take (i + 1) (starts_from 0 lens)) starts → now ≡ over_at 0 (starts_from 0 lens) starts
  fill_end i now h e = let k : length (starts_from 0 lens) ≤ i + 1 = omega (arith, starts-length 0 lens) in rw (take_all (i + 1) (starts_from 0 lens) k) at e

-- ---- spans
module _ (letters : List ℕ) (a b : ℕ) where
  pub between-fit : a ≤ b → b ≤ length letters → take (b - a) (drop a letters) ≡ between letters a b
  unfolding between
  between-fit h k = rw (le-leb a b h, le-leb b (length letters) k)

  between-down : b < a → [] ≡ between letters a b
  unfolding between
  between-down h = rw (lt-leb a b h)

  between-long : a ≤ b → length letters < b → [] ≡ between letters a b
  unfolding between
  between-long h k = rw (le-leb a b h, lt-leb b (length letters) k)

  pub between_none : b ≡ 0 → between letters a b ≡ []
  unfolding between
  between_none e = go (leb a b && leb b (length letters))
    where
      go : (t : Bool) → choose t (take (b - a) (drop a letters)) [] ≡ []
      go true = let z : b - a ≡ 0 = omega arith in rw z
      go false = refl

-- the span between two words, where it is one, else no letters
module _ (starts letters : List ℕ) (x a b : ℕ) (p : a ≡ get_or starts x 0) (q : b ≡ get_or starts (x + 1) 0) where
  at_words : between letters a b ≡ letters_at starts letters x
  unfolding letters_at
  at_words = rw (p, q)

  pub span-read : (r : Option (Bor (List ℕ))) (none : Bor (List ℕ)) → none.now ≡ [] → IsGetRangeResult letters a b r → (unwrap_or r none).now ≡ letters_at starts letters x
  span-read (Some l) none z ((h, k, e, n), there) = e ∙ (between-fit letters a b h k ∙ at_words)
  span-read None none z (inl h, there) = z ∙ (between-down letters a b h ∙ at_words)
  span-read None none z (inr h, there) = z ∙ (go (leb a b) refl ∙ at_words)
    where
      go : (t : Bool) → leb a b ≡ t → [] ≡ between letters a b
      go true e = between-long letters a b (leb-true a b e) h
      go false e = between-down letters a b (leb-false a b e)

-- ---- names cut out of letters
-- the letters of a name by the starts are those by the lengths
pub letters-name : (lens letters : List ℕ) (x : ℕ) → sum lens ≤ length letters → letters_at (starts_from 0 lens) letters x ≡ get_or (cut lens letters) x []
unfolding letters_at name_at
letters-name lens letters x h = go (ltb x (length lens)) refl
  where
    go : (t : Bool) → ltb x (length lens) ≡ t → letters_at (starts_from 0 lens) letters x ≡ get_or (cut lens letters) x []
    go true e =
        let k : x < length lens = ltb-true x (length lens) e in
        let a : get_or (starts_from 0 lens) x 0 ≡ start lens x = starts-there lens x (omega arith) in
        let b : get_or (starts_from 0 lens) (x + 1) 0 ≡ get_or (starts_from 0 lens) x 0 + get_or lens x 0 = starts-there lens (x + 1) (omega arith) ∙ start-next lens x ∙ ap (λ n. n + get_or lens x 0) (sym a) in
        sym (between-fit letters (get_or (starts_from 0 lens) x 0) (get_or (starts_from 0 lens) (x + 1) 0) (omega arith) (omega (arith, end-within lens letters x h)))
        ∙ part-name lens letters x (get_or (starts_from 0 lens) x 0) (get_or (starts_from 0 lens) (x + 1) 0) a b ∙ sym (cut-name lens letters x k)
    go false e =
        let k : length lens ≤ x = ltb-false x (length lens) e in
        let b : get_or (starts_from 0 lens) (x + 1) 0 ≡ 0 = get_or-eq_default (starts_from 0 lens) 0 (omega (arith, starts-length 0 lens)) in
        between_none letters (get_or (starts_from 0 lens) x 0) (get_or (starts_from 0 lens) (x + 1) 0) b ∙ sym (get_or-eq_default (cut lens letters) [] (omega (arith, cut-count lens letters)))

-- ---- the names of an accepted sheet
-- a list over zeros, read at any place
zero-at : (n i : ℕ) → ◌≡◌ {A = ℕ} (get_or (replicate n 0) i 0) 0
zero-at zero i = refl
zero-at (suc n) zero = refl
zero-at (suc n) (suc i) = zero-at n i

over-zeros : (l : List ℕ) (n i : ℕ) → length l ≤ n → get_or (over l (replicate n 0)) i 0 ≡ get_or l i 0
over-zeros [] n i h = zero-at n i
over-zeros (a ∷ l) zero i h = absurd (omega arith)
over-zeros (a ∷ l) (suc n) zero h = refl
over-zeros (a ∷ l) (suc n) (suc i) h = over-zeros l n i (omega arith)

module _ {b : List ℕ} (a : Accepted b) where
  -- as many letters as the lengths say, within the limits
  pub names-fit : (ls ts : List ℕ) → ls ≡ lengths b → ts ≡ letters b → (sum ls ≡ length ts) × (length ls ≤ 1024) × (length ts ≤ 16384)
  names-fit ls ts e f =
      let m = lengths-long b (sizes_of b) a.sized in
      let l = letters-long b (sizes_of b) a.sized in
      rw (e, f) (omega (arith, a.summed, l), omega (arith, m, a.sized.names), omega (arith, l, a.sized.letters))

  -- the starts over zeros
  pub starts-stand : (ls starts : List ℕ) → ls ≡ lengths b → starts ≡ over_at 0 (starts_from 0 ls) (replicate 1025 0) → letters_at starts (letters b) ≡ letters_of (cut (lengths b) (letters b))
  unfolding letters_at
  starts-stand ls starts e f =
      let z = names-fit ls (letters b) e refl in
      let at : (i : ℕ) → get_or starts i 0 ≡ get_or (starts_from 0 ls) i 0 =
      λ i. ap (λ (s : List ℕ). get_or s i 0) (f ∙ over-front (starts_from 0 ls) (replicate 1025 0)) ∙ over-zeros (starts_from 0 ls) 1025 i (omega (arith, starts-length 0 ls, z.1)) in
      fun_ext (λ x. rw (at x, at (x + 1), ← e) (letters-name ls (letters b) x (omega (arith, z.0))))

-- ---- ids
-- letters compared one by one are the same where the test says it
pub same-pointwise : (x y : Letters) → pointwise nat_eq x y ≡ same_letters x y
same-pointwise [] [] = refl
same-pointwise [] (b ∷ y) = refl
same-pointwise (a ∷ x) [] = refl
same-pointwise (a ∷ x) (b ∷ y) = go (eqb a b) (same-pointwise x y)
  where
    go : (t : Bool) → pointwise nat_eq x y ≡ same_letters x y → (t && pointwise nat_eq x y) ≡ elim t [ true ↦ same_letters x y | false ↦ false ]
    go true e = e
    go false e = refl

-- letters are a name of an id where one of the ids passes
pub among-any : (x : Letters) (f : ℕ → Letters) (ids : List ℕ) → list_any (λ i. pointwise nat_eq x (f i)) ids ≡ any (same_letters x) (map f ids)
among-any x f [] = refl
among-any x f (i ∷ ids) = rw (same-pointwise x (f i), among-any x f ids) refl
