-- Runs of stores, and the bytes of a sheet by its parts.
use Prim.Native.Nat.{ℕ, suc, ◌+◌, ◌-◌, ◌*◌, ◌≤◌, ◌<◌}
use mathlib.Core.Path.{◌≡◌, refl, sym, ap, ◌∙◌}
use mathlib.Core.List.{List, [], ◌∷◌, ◌++◌, map, append_assoc}
use native.Mathlib.Numerals.{add-one}
use native.Mathlib.Omega.{arith}
use lib.ListN.{length, get_or, take, drop, set}
use lib.Seq.{sets, sets-eq, length-sets, drop-drop, take-suc, take_all, length-take-le}
use Rattle.std.proofs.lemmas.List.{map-append}
use borrow.Rule.Slice.PartMut.{put_mid}
use Rattle.definitions.specs.Lists.{join, over}
use Rattle.definitions.specs.Output.{word_bytes}
use Rattle.parts.proofs.Words.{over-whole}

-- ---- runs of stores
-- one run after another is one run
pub sets-two : (l a b : List ℕ) (i j : ℕ) → j ≡ i + length a → sets (sets l i a) j b ≡ sets l i (a ++ b)
sets-two l [] b i j e = let f : j ≡ i = omega arith in rw f
sets-two l (x ∷ a) b i j e = sets-two (set l i x) a b (suc i) j (omega arith)

-- a run from the front is written over it
sets_behind : (x : ℕ) (l vs : List ℕ) (i : ℕ) → sets (x ∷ l) (suc i) vs ≡ x ∷ sets l i vs
sets_behind x l [] i = refl
sets_behind x l (v ∷ vs) i = sets_behind x (set l i v) vs (suc i)

sets-none : (i : ℕ) (vs : List ℕ) → sets [] i vs ≡ []
sets-none i [] = refl
sets-none i (v ∷ vs) = sets-none (suc i) vs

pub sets_over : (l vs : List ℕ) → sets l 0 vs ≡ over vs l
sets_over l [] = refl
sets_over [] (v ∷ vs) = sets-none 1 vs
sets_over (x ∷ l) (v ∷ vs) = sets_behind v l vs 0 ∙ ap (λ (r : List ℕ). v ∷ r) (sets_over l vs)

-- bytes that are copied over a part of the list
pub bytes-put : (l v w : List ℕ) (at k : ℕ) → at + length v ≤ length l → k ≡ length v → w ≡ v → put_mid at k l w ≡ sets l at v
bytes-put l v w at k h e f = rw (e, f, drop-drop (length v) at l) (sym (sets-eq v l at h ∙ append_assoc (take at l) v (drop (at + length v) l)))

-- one run more, behind those before
pub part-put : (o l p v w : List ℕ) (at k : ℕ) → l ≡ sets o 0 p → length p ≡ at → at + length v ≤ length o → k ≡ length v → w ≡ v → put_mid at k l w ≡ sets o 0 (p ++ v)
part-put o l p v w at k e n h f g =
    let m : length l ≡ length o = ap length e ∙ length-sets o 0 p in
    bytes-put l v w at k (omega arith) f g ∙ rw e (sets-two o p v 0 at (omega arith))

-- ---- words
join-append : (a b : List (List ℕ)) → join (a ++ b) ≡ join a ++ join b
join-append [] b = refl
join-append (x ∷ a) b = ap (λ (r : List ℕ). x ++ r) (join-append a b) ∙ sym (append_assoc x (join a) (join b))

pub words_long : (v : List ℕ) → length (join (map word_bytes v)) ≡ 4 * length v
words_long [] = refl
words_long (x ∷ v) = omega (arith, words_long v)

-- one more word is stored
pub words_step : (l out v w : List ℕ) (k : ℕ) → length l ≡ 4 * length v → k < length v → out ≡ sets l 0 (join (map word_bytes (take k v))) → w ≡ word_bytes (get_or v k 0)
    → put_mid (4 * k) (4 * k + 4 - 4 * k) out w ≡ sets l 0 (join (map word_bytes (take (k + 1) v)))
words_step l out v w k h m e f =
    let a : length (join (map word_bytes (take k v))) ≡ 4 * k = omega (arith, words_long (take k v), length-take-le k v (omega arith)) in
    let b : join (map word_bytes (take (suc k) v)) ≡ join (map word_bytes (take k v)) ++ word_bytes (get_or v k 0) =
    ap (λ r. join (map word_bytes r)) (take-suc v k 0 m) ∙ (ap join (map-append word_bytes (take k v) (get_or v k 0 ∷ [])) ∙ join-append (map word_bytes (take k v)) (word_bytes (get_or v k 0) ∷ [])) in
    rw (add-one k, b) (part-put l out (join (map word_bytes (take k v))) (word_bytes (get_or v k 0)) w (4 * k) (4 * k + 4 - 4 * k) e a (omega arith) (omega arith) f)

pub words-end : (l v : List ℕ) (k : ℕ) → length l ≡ 4 * length v → length v ≤ k → sets l 0 (join (map word_bytes (take k v))) ≡ join (map word_bytes v)
words-end l v k h m = rw (take_all k v m) (sets_over l (join (map word_bytes v)) ∙ over-whole (join (map word_bytes v)) l (omega (arith, words_long v)))
