-- Laws of writing: one after the other; where there is room; where there is none.
-- Assumes nothing.
use mathlib.Core.Path.{◌≡◌, refl, sym, ◌∙◌, ap, ap₂, subst}
use mathlib.Core.List.{List, [], ◌∷◌, ◌++◌, map, append_assoc}
use Rattle.std.specs.Prelude.{Bool, true, false, ◌||◌}
use Rattle.std.proofs.Math.Bool.{or-true, or-false}
use Prim.Native.Nat.{ℕ, zero, suc, min, ◌+◌, ◌-◌, ◌≤◌, ◌<◌}
use native.Mathlib.Omega.{arith}
use native.Mathlib.Numerals.{add-one}
use lib.ListN.{length, get_or, set, take, drop, replicate}
use lib.Seq.{sets, sets-eq, take-nil, take_all, take-append_seam}
use Rattle.std.proofs.lemmas.List.{map-append, length-map, length-replicate, take-replicate, take_min, drop_more, drop_all}
use lib.Dec.{ltb}
use lib.LanesLaws.{map-replicate}
use borrow.Rule.Slice.PartMut.{mid_of, post_of, put_mid, mid_len, Post-is}
use borrow.Author.Tests.{lt-ltb, le-ltb, ltb-true, ltb-false}
use Rattle.definitions.specs.declared.Token.{Token}
use Rattle.definitions.specs.Tokens.{TagValue, tag_value, code_of, tag_of, value_of}
use Rattle.definitions.specs.Bytes.{tokens}
use Rattle.emit.specs.declared.output.Output.{Output}
use Rattle.emit.specs.Out.{room, put_by, put, puts, emits}

-- one list after another
pub puts-append : (o : Output) (a b : List TagValue) → puts (puts o a) b ≡ puts o (a ++ b)
unfolding puts
puts-append o [] b = refl
puts-append o (k ∷ a) b = puts-append (put o k) a b

pub emits-append : (o : Output) (a b : List Token) → emits (emits o a) b ≡ emits o (a ++ b)
unfolding emits
emits-append o a b = puts-append o (map code_of a) (map code_of b) ∙ ap (puts o) (sym (map-append code_of a b))

-- nothing more
pub emits_none : (o : Output) → emits o [] ≡ o
unfolding emits puts
emits_none o = refl

-- tokens that stand as tags and values already
pub emits-codes : (o : Output) (a : List TagValue) (l : List Token) → a ≡ map code_of l → puts o a ≡ emits o l
unfolding emits
emits-codes o a l e = rw e

-- ---- what is written, field by field
-- two tests of numbers that follow from each other
same-test : (a b c d : ℕ) → (a < b → c < d) → (b ≤ a → d ≤ c) → ltb a b ≡ ltb c d
same-test a b c d f g = go (ltb a b) refl
  where
    go : (t : Bool) → ltb a b ≡ t → t ≡ ltb c d
    go true e = sym (lt-ltb c d (f (ltb-true a b e)))
    go false e = sym (le-ltb c d (g (ltb-false a b e)))

-- where one had no place there is no room
no-room : (o : Output) → o.full ≡ true → room o ≡ 0
no-room o h = rw h refl

-- where there is room, none was without a place
some-room : (o : Output) → 0 < room o → (o.full ≡ false) × (room o ≡ 8192 - o.count)
some-room o h = go o.full refl
  where
    go : (b : Bool) → o.full ≡ b → (o.full ≡ false) × (room o ≡ 8192 - o.count)
    go true e = absurd (omega (arith, h, no-room o e))
    go false e = (e, rw e refl)

-- an output after these tags and values: those for which there is room stand behind the ones before; it is full, where some have no place
pub record Written (o : Output) (l : List TagValue) (r : Output) : Type 0 where
  pub tags : r.tags ≡ sets o.tags o.count (map (λ k. k.tag) (take (room o) l))
  pub values : r.values ≡ sets o.values o.count (map (λ k. k.value) (take (room o) l))
  pub count : r.count ≡ o.count + min (room o) (length l)
  pub full : r.full ≡ (o.full || ltb (room o) (length l))

put-written : (o : Output) (k : TagValue) (l : List TagValue) (b : Bool) → ltb 0 (room o) ≡ b → ((o' : Output) → Written o' l (puts o' l)) → Written o (k ∷ l) (puts (put_by o k b) l)
put-written o k l true e more =
    let s = some-room o (ltb-true 0 (room o) e) in
    let w = more (put_by o k true) in
    let m : room (put_by o k true) ≡ 8192 - suc o.count = rw (s.0, add-one o.count) refl in
    let n : room o ≡ suc (8192 - suc o.count) = omega (arith, s.1, ltb-true 0 (room o) e) in
    record {
      tags = w.tags ∙ rw (n, m, add-one o.count) refl;
      values = w.values ∙ rw (n, m, add-one o.count) refl;
      count = w.count ∙ omega (arith, m, n);
      full = w.full ∙ ap (λ (t : Bool). o.full || t) (same-test (room (put_by o k true)) (length l) (room o) (suc (length l)) (λ h. omega (arith, h, m, n)) (λ h. omega (arith, h, m, n)));
    }
put-written o k l false e more =
    let n : room o ≡ 0 = omega (arith, ltb-false 0 (room o) e) in
    let w = more (put_by o k false) in
    record {
      tags = w.tags ∙ rw n refl;
      values = w.values ∙ rw n refl;
      count = w.count ∙ omega (arith, n);
      full = w.full ∙ sym (ap (λ (t : Bool). o.full || t) (lt-ltb (room o) (suc (length l)) (omega (arith, n))) ∙ or-true o.full);
    }

pub puts-written : (l : List TagValue) (o : Output) → Written o l (puts o l)
unfolding puts
puts-written [] o = record {
  tags = rw (take-nil (room o)) refl;
  values = rw (take-nil (room o)) refl;
  count = omega arith;
  full = sym (ap (λ (t : Bool). o.full || t) (le-ltb (room o) 0 (omega arith)) ∙ or-false o.full);
}
puts-written (k ∷ l) o = put-written o k l (ltb 0 (room o)) refl (puts-written l)

-- an output of these parts
abbrev made : List ℕ → List ℕ → ℕ → Bool → Output
made ts vs n b = record { tags = ts; values = vs; count = n; full = b }

-- two outputs with the same arrays, as many tokens and the same word of being full
pub same_output : (r s : Output) → r.tags ≡ s.tags → r.values ≡ s.values → r.count ≡ s.count → r.full ≡ s.full → r ≡ s
same_output r s a b c d = ap₂ (λ ts vs. made ts vs r.count r.full) a b ∙ ap₂ (λ n t. made s.tags s.values n t) c d

-- one tag and value more: where there is room; where there is none
module _ (o r : Output) (k : TagValue) where
  pub put-in : 0 < room o → r.tags ≡ set o.tags o.count k.tag → r.values ≡ set o.values o.count k.value → r.count ≡ o.count + 1 → r.full ≡ o.full → r ≡ puts o (k ∷ [])
  unfolding puts
  put-in h tags values count full = same_output r (put_by o k true) tags values count full ∙ ap (put_by o k) (sym (lt-ltb 0 (room o) h))

  pub put-out : room o ≤ 0 → r.tags ≡ o.tags → r.values ≡ o.values → r.count ≡ o.count → r.full ≡ true → r ≡ puts o (k ∷ [])
  unfolding puts
  put-out h tags values count full = same_output r (put_by o k false) tags values count full ∙ ap (put_by o k) (sym (le-ltb 0 (room o) h))

-- past the end nothing is written any more
pub emits-stuck : (l : List Token) (o : Output) → o.full ≡ true → emits o l ≡ o
unfolding emits
emits-stuck l o h =
    let w = puts-written (map code_of l) o in
    let n = no-room o h in
    same_output (emits o l) o (w.tags ∙ rw n refl) (w.values ∙ rw n refl) (w.count ∙ omega (arith, n)) (w.full ∙ rw h refl)

-- what being full says, where writing started in empty arrays of 8,192
module _ (o r : Output) (l : List Token) (none : o.count ≡ 0) (free : o.full ≡ false) (e : r ≡ emits o l) where
  written : Written o (map code_of l) r
  unfolding emits
  written = subst (Written o (map code_of l)) (sym e) (puts-written (map code_of l) o)

  all-free : room o ≡ 8192
  all-free = rw (free, none) refl

  full : r.full ≡ ltb (room o) (length (map code_of l))
  full = written.full ∙ ap (λ (b : Bool). b || ltb (room o) (length (map code_of l))) free

  pub emits-long : r.full ≡ true → 8192 < length l
  emits-long h = omega (arith, ltb-true (room o) (length (map code_of l)) (sym full ∙ h), all-free, length-map l code_of)

  pub emits-few : r.full ≡ false → length l ≤ 8192
  emits-few h = omega (arith, ltb-false (room o) (length (map code_of l)) (sym full ∙ h), all-free, length-map l code_of)

  pub emits-fit : r.full ≡ false → (r.count ≡ length l) × (r.tags ≡ sets o.tags 0 (map (λ k. k.tag) (map code_of l))) × (r.values ≡ sets o.values 0 (map (λ k. k.value) (map code_of l)))
  emits-fit h =
      let n = length-map l code_of in
      let all : take (room o) (map code_of l) ≡ map code_of l = ap (λ (i : ℕ). take i (map code_of l)) all-free ∙ take_all 8192 (map code_of l) (omega (arith, n, emits-few h)) in (
        omega (arith, written.count, none, n, emits-few h, all-free),
        written.tags ∙ ap₂ (λ i ks. sets o.tags i (map (λ k. k.tag) ks)) none all,
        written.values ∙ ap₂ (λ i ks. sets o.values i (map (λ k. k.value) ks)) none all,
      )

-- the first tokens of arrays that they were written over
take-sets : (l ts : List ℕ) → length l ≤ length ts → take (length l) (sets ts 0 l) ≡ l
take-sets l ts h = rw (sets-eq l ts 0 (omega arith)) (take-append_seam l (drop (0 + length l) ts))

tokens-map : (l : List TagValue) → tokens (map (λ k. k.tag) l) (map (λ k. k.value) l) ≡ l
unfolding tokens
tokens-map [] = refl
tokens-map (k ∷ l) = ap (λ (m : List TagValue). k ∷ m) (tokens-map l)

-- all tokens are there, where each had its place
pub emits-whole : (o r : Output) (l : List Token) → o.count ≡ 0 → o.full ≡ false → r ≡ emits o l → 8192 ≤ length o.tags → 8192 ≤ length o.values → r.full ≡ false →
    (r.count ≡ length l) × (tokens (take r.count r.tags) (take r.count r.values) ≡ map code_of l)
emits-whole o r l z n e ht hv h =
    let f = emits-fit o r l z n e h in
    let a : length (map (λ k. k.tag) (map code_of l)) ≡ length l = length-map (map code_of l) (λ k. k.tag) ∙ length-map l code_of in
    let b : length (map (λ k. k.value) (map code_of l)) ≡ length l = length-map (map code_of l) (λ k. k.value) ∙ length-map l code_of in
    let few = emits-few o r l z n e h in
    let u : take r.count r.tags ≡ map (λ k. k.tag) (map code_of l) = rw (f.1, f.0, ← a) (take-sets (map (λ k. k.tag) (map code_of l)) o.tags (omega arith)) in
    let v : take r.count r.values ≡ map (λ k. k.value) (map code_of l) = rw (f.2, f.0, ← b) (take-sets (map (λ k. k.value) (map code_of l)) o.values (omega arith)) in
    (f.0, rw (u, v) (tokens-map (map code_of l)))

-- the tokens of a list from i on: one more is written; all are
pub emitted_more : (whole o o' : Output) (l : List Token) (i : ℕ) (d : Token) → i < length l → whole ≡ emits o (drop i l) → o' ≡ emits o (get_or l i d ∷ []) → whole ≡ emits o' (drop (i + 1) l)
emitted_more whole o o' l i d h e f = e ∙ rw (f, emits-append o (get_or l i d ∷ []) (drop (i + 1) l), drop_more l i d h)

pub emitted_all : (whole o : Output) (l : List Token) (i : ℕ) → length l ≤ i → whole ≡ emits o (drop i l) → o ≡ whole
emitted_all whole o l i h e = sym (e ∙ rw (drop_all i l h) (emits_none o))

-- the source's tokens from i on
tokens-drop : (ts vs : List ℕ) (i : ℕ) → length vs ≡ length ts → i < length ts → drop i (tokens ts vs) ≡ tag_value (get_or ts i 0) (get_or vs i 0) ∷ drop (suc i) (tokens ts vs)
unfolding tokens
tokens-drop [] vs i e h = absurd (omega arith)
tokens-drop (t ∷ ts) [] i e h = absurd (omega arith)
tokens-drop (t ∷ ts) (v ∷ vs) zero e h = refl
tokens-drop (t ∷ ts) (v ∷ vs) (suc i) e h = tokens-drop ts vs i (omega arith) (omega arith)

module _ (ts vs : List ℕ) (same_length : length vs ≡ length ts) where
  module _ (whole o : Output) (i to : ℕ) where
    -- one more is copied
    pub copied_more : (o' : Output) → i < to → to ≤ length ts → whole ≡ puts o (take (to - i) (drop i (tokens ts vs))) → o' ≡ puts o (tag_value (get_or ts i 0) (get_or vs i 0) ∷ []) →
        whole ≡ puts o' (take (to - (i + 1)) (drop (i + 1) (tokens ts vs)))
    copied_more o' h l e f =
        let n : to - i ≡ suc (to - (i + 1)) = omega arith in
        e ∙ rw (f, puts-append o (tag_value (get_or ts i 0) (get_or vs i 0) ∷ []) (take (to - (i + 1)) (drop (i + 1) (tokens ts vs))), n, tokens-drop ts vs i same_length (omega arith), add-one i)

    pub copied_all : to ≤ i → whole ≡ puts o (take (to - i) (drop i (tokens ts vs))) → o ≡ whole
    unfolding puts
    copied_all h e = let n : to - i ≡ 0 = omega arith in sym (e ∙ rw n)

-- one token, by its tag and value
pub emit-one : (o : Output) (t : Token) (tag value : ℕ) → tag ≡ tag_of t → value ≡ value_of t → puts o (tag_value tag value ∷ []) ≡ emits o (t ∷ [])
unfolding emits
emit-one o t tag value e f = rw (e, f)

-- ---- so many times a tag and a value
-- items that are filled in are written one after the other, and none before or behind
filled-sets : (xs ys : List ℕ) (at from to many x : ℕ) → length xs ≡ 8192 → many ≤ 8192 - at → from ≡ min at 8192 → to ≡ from + many → ys ≡ replicate (length (mid_of from (to - from) xs)) x
    → put_mid from (to - from) xs ys ≡ sets xs at (replicate many x)
filled-sets xs ys at from to many x n few e i f =
    let mid : length (mid_of from (to - from) xs) ≡ many = mid_len from to xs (omega (arith, e, i, few, n)) ∙ omega (arith, i) in
    let u : from + length (replicate many x) ≡ to = omega (arith, length-replicate many x, i) in
    ap (λ (zs : List ℕ). take from xs ++ (zs ++ post_of from (to - from) xs)) (f ∙ ap (λ (m : ℕ). replicate m x) mid)
    ∙ (ap (λ (zs : List ℕ). take from xs ++ (replicate many x ++ zs)) (Post-is from to xs (omega (arith, i)))
    ∙ sym (sets-eq (replicate many x) xs from (omega (arith, u, e, i, few, n)) ∙ append_assoc (take from xs) (replicate many x) _ ∙ ap (λ (m : ℕ). take from xs ++ (replicate many x ++ drop m xs)) u)
    ∙ moved many few)
  where
    -- from the place after those in use on; where that is past all, none is written
    moved : (m : ℕ) → m ≤ 8192 - at → sets xs from (replicate m x) ≡ sets xs at (replicate m x)
    moved zero h = refl
    moved (suc m) h = ap (λ (p : ℕ). sets xs p (replicate (suc m) x)) (omega (arith, e, h))

-- so many times a token, by its tag and value
module _ (o r : Output) (t : Token) (m free many from to tag value : ℕ) (tag-is : tag ≡ tag_of t) (value-is : value ≡ value_of t) (room-is : free ≡ room o) (behind : free ≤ 8192 - o.count) (few : many ≡ min free m) (begin : from ≡ min o.count 8192) (end : to ≡ from + many) where
  pub many-written : (tags values : List ℕ) → length o.tags ≡ 8192 → length o.values ≡ 8192
      → tags ≡ replicate (length (mid_of from (to - from) o.tags)) tag → values ≡ replicate (length (mid_of from (to - from) o.values)) value
      → r.tags ≡ put_mid from (to - from) o.tags tags → r.values ≡ put_mid from (to - from) o.values values
      → r.count ≡ o.count + many → r.full ≡ (o.full || ltb many m) → r ≡ emits o (replicate m t)
  unfolding emits
  many-written tags values tags-long values-long tags-filled values-filled r-tags r-values r-count r-full =
      let ks = map code_of (replicate m t) in
      let w = puts-written ks o in
      let n : length ks ≡ m = length-map (replicate m t) code_of ∙ length-replicate m t in
      let k : min (room o) m ≡ many = omega (arith, few, room-is) in
      same_output r (emits o (replicate m t))
      (r-tags ∙ filled-sets o.tags tags o.count from to many tag tags-long (omega (arith, few, behind)) begin end tags-filled ∙ sym (w.tags ∙ ap (sets o.tags o.count) (front (λ k. k.tag) ∙ ap₂ replicate k (sym tag-is))))
      (r-values ∙ filled-sets o.values values o.count from to many value values-long (omega (arith, few, behind)) begin end values-filled ∙ sym (w.values ∙ ap (sets o.values o.count) (front (λ k. k.value) ∙ ap₂ replicate k (sym value-is))))
      (r-count ∙ sym (w.count ∙ ap (λ (i : ℕ). o.count + i) (ap (min (room o)) n ∙ k)))
      (r-full ∙ ap (λ (b : Bool). o.full || b) (same-test many m (room o) (length ks) (λ h. omega (arith, h, k, n)) (λ h. omega (arith, h, k, n))) ∙ sym w.full)
    where
      front : (f : TagValue → ℕ) → map f (take (room o) (map code_of (replicate m t))) ≡ replicate (min (room o) m) (f (code_of t))
      front f =
          rw (map-replicate code_of m t, ← take_min (room o) (replicate m (code_of t)), length-replicate m (code_of t), take-replicate (min (room o) m) m (code_of t) (omega arith)) (map-replicate f (min (room o) m) (code_of t))
