-- Words of four bytes, sums, and lists written over the front of others.
use Prim.Native.Nat.{ℕ, zero, suc, ◌+◌, ◌-◌, ◌*◌, ◌≤◌, ◌<◌}
use mathlib.Core.Path.{◌≡◌, refl, ap, ◌∙◌}
use mathlib.Core.List.{List, [], ◌∷◌, ◌++◌}
use native.Mathlib.Numerals.{add-one}
use native.Mathlib.Omega.{arith}
use lib.ListN.{length, get_or, take, drop, set, length-drop}
use lib.Seq.{get_or-take, length-take-le, take_all}
use Rattle.std.specs.List.{sum_by}
use Rattle.std.proofs.lemmas.List.Sums.{sum_by-cons}
use Rattle.definitions.specs.Lists.{sum, over}
use Rattle.definitions.specs.Bytes.{four_byte_words}
pub use Rattle.shapes.proofs.ReadBytes.{words-length}
use Rattle.parts.specs.Answers.{word_at}

-- ---- words
-- the bytes that the code reads
pub word_read : (l : List ℕ) (at : ℕ) → word_at l at ≡ get_or l at 0 + 256 * get_or l (at + 1) 0 + 65536 * get_or l (at + 2) 0 + 16777216 * get_or l (at + 3) 0
unfolding word_at
word_read l at =
    let p : at + 1 ≡ suc at = omega arith in
    let q : at + 2 ≡ suc (suc at) = omega arith in
    let r : at + 3 ≡ suc (suc (suc at)) = omega arith in
    rw (p, q, r)

pub word-take : (n at : ℕ) (l : List ℕ) → at + 4 ≤ n → word_at (take n l) at ≡ word_at l at
unfolding word_at
word-take n at l h =
    let a : at < n = omega arith in
    let b : suc at < n = omega arith in
    let c : suc (suc at) < n = omega arith in
    let d : suc (suc (suc at)) < n = omega arith in
    rw (get_or-take n l at 0 a, get_or-take n l (suc at) 0 b, get_or-take n l (suc (suc at)) 0 c, get_or-take n l (suc (suc (suc at))) 0 d)

-- word k stands at 4 * k
pub word_of : (l : List ℕ) (k : ℕ) → 4 * k + 4 ≤ length l → get_or (four_byte_words l) k 0 ≡ word_at l (4 * k)
unfolding four_byte_words word_at
word_of [] k h = absurd (omega arith)
word_of (a ∷ []) k h = absurd (omega arith)
word_of (a ∷ b ∷ []) k h = absurd (omega arith)
word_of (a ∷ b ∷ c ∷ []) k h = absurd (omega arith)
word_of (a ∷ b ∷ c ∷ d ∷ l) zero h = refl
word_of (a ∷ b ∷ c ∷ d ∷ l) (suc k) h =
    let e : 4 * suc k ≡ suc (suc (suc (suc (4 * k)))) = omega arith in
    rw e (word_of l k (omega arith))

-- ---- sums
pub sum_all : (l : List ℕ) → sum_by (λ n. n) l ≡ sum l
sum_all [] = refl
sum_all (n ∷ l) = sum_by-cons (λ k. k) n l ∙ ap (λ k. n + k) (sum_all l)

-- ---- writing over the front
pub bytes_over : (l v : List ℕ) → length v ≤ length l → v ++ drop (length v) l ≡ over v l
bytes_over l [] h = refl
bytes_over [] (x ∷ v) h = absurd (omega arith)
bytes_over (y ∷ l) (x ∷ v) h = ap (λ (r : List ℕ). x ∷ r) (bytes_over l v (omega arith))

pub over-step : (l lent : List ℕ) (k : ℕ) → k < length l → set (over (take k l) lent) k (get_or l k 0) ≡ over (take (k + 1) l) lent
over-step l lent k h = rw (add-one k) (go l lent k h)
  where
    go : (l lent : List ℕ) (k : ℕ) → k < length l → set (over (take k l) lent) k (get_or l k 0) ≡ over (take (suc k) l) lent
    go [] lent k h = absurd (omega arith)
    go (x ∷ l) [] zero h = refl
    go (x ∷ l) (y ∷ lent) zero h = refl
    go (x ∷ l) [] (suc k) h = refl
    go (x ∷ l) (y ∷ lent) (suc k) h = ap (λ (r : List ℕ). x ∷ r) (go l lent k (omega arith))

pub over-all : (l lent : List ℕ) (k : ℕ) → length l ≤ k → over (take k l) lent ≡ over l lent
over-all l lent k h = rw (take_all k l h)

-- bytes that are copied over the front
pub tags-copied : (b lent out : List ℕ) (at n : ℕ) → at + n ≤ length b → n ≤ length lent → out ≡ take n (drop at b)
    → out ++ drop n lent ≡ over (take n (drop at b)) lent
tags-copied b lent out at n h k e =
    let l : length (take n (drop at b)) ≡ n = length-take-le n (drop at b) (omega (arith, length-drop at b)) in
    rw e (rw l at (bytes_over lent (take n (drop at b)) (omega arith)))

-- one more word is read
pub words_read : (b before out : List ℕ) (n k : ℕ) → length b ≡ 4 * n → k < n → out ≡ over (take k (four_byte_words b)) before → set out k (word_at b (4 * k)) ≡ over (take (k + 1) (four_byte_words b)) before
words_read b before out n k h m e = rw (e, ← word_of b k (omega arith)) (over-step (four_byte_words b) before k (omega (arith, words-length n b h)))

pub over-whole : (v l : List ℕ) → length l ≡ length v → over v l ≡ v
over-whole [] [] h = refl
over-whole [] (y ∷ l) h = absurd (omega arith)
over-whole (x ∷ v) [] h = absurd (omega arith)
over-whole (x ∷ v) (y ∷ l) h = ap (λ (r : List ℕ). x ∷ r) (over-whole v l (omega arith))

pub words-end : (b before : List ℕ) (k : ℕ) → length b ≡ 4 * length before → length before ≤ k → over (take k (four_byte_words b)) before ≡ four_byte_words b
words-end b before k h m =
    let l = words-length (length before) b h in
    over-all (four_byte_words b) before k (omega (arith, l)) ∙ over-whole (four_byte_words b) before (omega (arith, l))

-- the words from a place to the end, over the front
module _ (b lent : List ℕ) (s n : ℕ) (h : s + 4 * n ≡ length b) (m : n ≤ length lent) where
  pub words-left : length (take (length b - s) (drop s b)) ≡ 4 * length (take n lent)
  words-left = omega (arith, length-take-le (length b - s) (drop s b) (omega (arith, length-drop s b)), length-drop s b, length-take-le n lent m)

  pub words-copied : (out : List ℕ) → out ≡ four_byte_words (take (length b - s) (drop s b)) → out ++ drop n lent ≡ over (four_byte_words (drop s b)) lent
  words-copied out e =
      let l : length (four_byte_words (drop s b)) ≡ n = words-length n (drop s b) (omega (arith, length-drop s b)) in
      let f : out ≡ four_byte_words (drop s b) = e ∙ ap four_byte_words (take_all (length b - s) (drop s b) (omega (arith, length-drop s b))) in
      rw f (rw l at (bytes_over lent (four_byte_words (drop s b)) (omega arith)))
