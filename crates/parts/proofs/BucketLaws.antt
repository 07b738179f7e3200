-- Names in buckets: a name that repeats an earlier one is in its bucket.
-- Assumes nothing.
use Prim.Native.Nat.{ℕ, zero, suc, ◌+◌, ◌-◌, ◌≤◌, ◌<◌}
use mathlib.Core.Path.{◌≡◌, refl, sym, ap, ◌∙◌}
use mathlib.Core.Bool.{Bool, true, false, ◌||◌}
use mathlib.Core.List.{List}
use native.Mathlib.Numerals.{add-one}
use native.Mathlib.Omega.{arith}
use lib.ListN.{length, get_or, set, take, drop, replicate, length-set, length-replicate, get_or-replicate, drop_of_length-le}
use Rattle.std.specs.Prelude.{Option, None, Some}
use Rattle.std.specs.Str.{bytes_eq}
use lib.Seq.{drop-cons, get_or-set_same, get_or-set_other}
use lib.Dec.{eqb}
use borrow.Author.Tests.{eqb-true, eqb-false, eq-eqb, ne_eqb}
use Rattle.definitions.specs.Lists.{Letters, choose, any, same_letters}
use Rattle.shapes.proofs.Facts.{letters-eq}
use Rattle.parts.specs.Places.{start, name_at, before}
use Rattle.parts.specs.declared.buckets.Entry.{Entry}
use Rattle.parts.specs.declared.naming.Names.{Names}
use Rattle.parts.specs.Buckets.{mixed, hashed, bucket_of, bucket_at, last_in, no_entry, Filled}
use Rattle.parts.proofs.NamesLaws.{end-within, part-name, same_bytes}

-- ---- the hash of letters
pub hashed-step : (h : ℕ) (l : List ℕ) (i : ℕ) → i < length l → hashed h (drop i l) ≡ hashed (mixed h (get_or l i 0)) (drop (i + 1) l)
unfolding hashed
hashed-step h l i k = rw (add-one i, drop-cons l i 0 k)

pub hashed-end : (h : ℕ) (l : List ℕ) (i : ℕ) → length l ≤ i → hashed h (drop i l) ≡ h
unfolding hashed
hashed-end h l i k = rw (drop_of_length-le l k)

-- ---- the same letters are in the same bucket
other-bucket : (x y : Letters) → (bucket_of y ≡ bucket_of x → ⊥) → same_letters x y ≡ false
other-bucket x y n = go (same_letters x y) refl
  where
    go : (t : Bool) → same_letters x y ≡ t → t ≡ false
    go true q = absurd (n (ap bucket_of (sym (letters-eq x y q))))
    go false q = refl

-- ---- the last name of a bucket
module _ (bucket : ℕ → ℕ) (b : ℕ) where
  pub last-within : (m j : ℕ) → last_in bucket b m ≡ Some j → j < m
  unfolding last_in
  last-within zero j h = absurd cc
  last-within (suc m) j h = go (eqb (bucket m) b) (last-within m j) h
    where
      go : (t : Bool) → (last_in bucket b m ≡ Some j → j < m) → choose t (Some m) (last_in bucket b m) ≡ Some j → j < suc m
      go true r u = let e : m ≡ j = cc in omega arith
      go false r u = omega (arith, r u)

  pub last-bucket : (m j : ℕ) → last_in bucket b m ≡ Some j → bucket j ≡ b
  unfolding last_in
  last-bucket zero j h = absurd cc
  last-bucket (suc m) j h = go (eqb (bucket m) b) refl (last-bucket m j) h
    where
      go : (t : Bool) → eqb (bucket m) b ≡ t → (last_in bucket b m ≡ Some j → bucket j ≡ b) → choose t (Some m) (last_in bucket b m) ≡ Some j → bucket j ≡ b
      go true q r u = let e : m ≡ j = cc in rw e at (eqb-true (bucket m) b q)
      go false q r u = r u

  last-here : (m : ℕ) → bucket m ≡ b → last_in bucket b (m + 1) ≡ Some m
  unfolding last_in
  last-here m e = rw (add-one m, eq-eqb (bucket m) b e)

  last-other : (m : ℕ) → (bucket m ≡ b → ⊥) → last_in bucket b (m + 1) ≡ last_in bucket b m
  unfolding last_in
  last-other m n = rw (add-one m, ne_eqb (bucket m) b n)

-- the bucket of each name
abbrev pub bucket : Names → ℕ → ℕ
bucket names = bucket_at names.lengths.now names.letters.now

module _ (names : Names) (count : ℕ) (x : Letters) where
  -- does it repeat a name before name m?
  abbrev pub repeats_before : ℕ → Bool
  repeats_before m = any (same_letters x) (before names.lengths.now names.letters.now m)

  -- the same of a name and those before it
  abbrev pub repeats_from : Option ℕ → Bool
  repeats_from None = false
  repeats_from (Some j) = repeats_before (suc j)

  -- the names of other buckets need no look
  only-bucket : (m : ℕ) → repeats_before m ≡ repeats_from (last_in (bucket names) (bucket_of x) m)
  unfolding last_in before bucket_at
  only-bucket zero = refl
  only-bucket (suc m) = go (eqb (bucket names m) (bucket_of x)) refl (only-bucket m)
    where
      go : (t : Bool) → eqb (bucket names m) (bucket_of x) ≡ t → repeats_before m ≡ repeats_from (last_in (bucket names) (bucket_of x) m) → repeats_before (suc m) ≡ repeats_from (choose t (Some m) (last_in (bucket names) (bucket_of x) m))
      go true q r = refl
      go false q r = rw (other-bucket x (name_at names.lengths.now names.letters.now m) (eqb-false (bucket names m) (bucket_of x) q)) r

  -- this name of the bucket and those before it are left to compare
  pub record Left (e : Option ℕ) : Type 0 where
    pub within : (j : ℕ) → e ≡ Some j → j < count
    pub bucket : (j : ℕ) → e ≡ Some j → bucket_at names.lengths.now names.letters.now j ≡ bucket_of x
    pub answer : repeats_before count ≡ repeats_from e

  pub left_at : (m : ℕ) (e : Option ℕ) → m ≤ count → e ≡ last_in (bucket names) (bucket_of x) m → repeats_before count ≡ repeats_before m → Left e
  left_at m e l p h =
      record {
        within = λ j q. omega (arith, last-within (bucket names) (bucket_of x) m j (sym p ∙ q));
        bucket = λ j q. last-bucket (bucket names) (bucket_of x) m j (sym p ∙ q);
        answer = h ∙ (only-bucket m ∙ ap repeats_from (sym p));
      }

  -- name j is looked at: by its entry and its length its letters are cut, and the entry tells the name before it in the bucket
  pub record Looked (j : ℕ) (e : Entry) (n : ℕ) : Type 0 where
    pub left : Left (Some j)
    pub begins : e.start ≡ start names.lengths.now j
    pub long : n ≡ get_or names.lengths.now j 0
    pub follows : e.previous ≡ last_in (bucket names) (bucket names j) j

-- no more names than this are left
abbrev pub left : Option ℕ → ℕ
left None = 0
left (Some j) = suc j

pub left_within : (bucket : ℕ → ℕ) (b m : ℕ) (e : Option ℕ) → e ≡ last_in bucket b m → left e ≤ m
left_within bucket b m None h = omega arith
left_within bucket b m (Some j) h = omega (arith, last-within bucket b m j (sym h))

module _ {names : Names} {count : ℕ} {x : Letters} {j : ℕ} where
  pub looked_at : {entries : List Entry} {lasts : List (Option ℕ)} {i n : ℕ} → Filled names.lengths.now names.letters.now entries lasts count
      → Left names count x (Some j) → i ≡ j → n ≡ get_or names.lengths.now i 0 → Looked names count x j (get_or entries i no_entry) n
  looked_at f h e l =
      let k = f.entered j (h.within j refl) in
      rw e (record { left = h; begins = ap (λ (y : Entry). y.start) k; long = rw e at l; follows = ap (λ (y : Entry). y.previous) k })

  module _ {e : Entry} {n : ℕ} (k : Looked names count x j e n) where
    pub ends-within : e.start + n ≤ length names.letters.now
    ends-within = omega (arith, end-within names.lengths.now names.letters.now j (omega (arith, names.whole)), k.begins, k.long)

    pub fewer : left e.previous ≤ j
    fewer = left_within (bucket names) _ j _ k.follows

    module _ (r : Bool) (q : r ≡ bytes_eq x (take (e.start + n - e.start) (drop e.start names.letters.now))) where
      compared : repeats_before names count x count ≡ (r || repeats_before names count x j)
      unfolding before
      compared = k.left.answer ∙ rw (q, same_bytes x _, part-name names.lengths.now names.letters.now j e.start (e.start + n) k.begins (ap (λ m. e.start + m) k.long))

      pub found : r ≡ true → true ≡ repeats_before names count x count
      found t = sym (compared ∙ rw t)

      pub left-next : r ≡ false → Left names count x e.previous
      left-next t = left_at names count x j e.previous (omega (arith, k.left.within j refl)) (k.follows ∙ ap (λ (b : ℕ). last_in (bucket names) b j) (k.left.bucket j refl)) (compared ∙ rw t)

-- ---- the tables
module _ {lens letters : List ℕ} where
  pub filled_none : Filled lens letters (replicate 1024 no_entry) (replicate 1024 None) 0
  unfolding last_in
  filled_none =
      record {
        all-entries = length-replicate {A = Entry} 1024 no_entry;
        all-lasts = length-replicate {A = Option ℕ} 1024 None;
        entered = λ j l. absurd (omega arith);
        headed = λ b l. get_or-replicate 1024 b None None l;
      }

  module _ {entries : List Entry} {lasts : List (Option ℕ)} {i at b : ℕ} (f : Filled lens letters entries lasts i) (p : at ≡ start lens i) (q : b ≡ bucket_at lens letters i) (u : b < 1024) (l : i < 1024) where
    entered-more : (j : ℕ) → j < i + 1 → get_or (set entries i (record { start = at; previous = get_or lasts b None })) j no_entry
        ≡ record { start = start lens j; previous = last_in (bucket_at lens letters) (bucket_at lens letters j) j }
    entered-more j k = go (eqb j i) refl
      where
        go : (t : Bool) → eqb j i ≡ t → get_or (set entries i (record { start = at; previous = get_or lasts b None })) j no_entry
            ≡ record { start = start lens j; previous = last_in (bucket_at lens letters) (bucket_at lens letters j) j }
        go true w = rw (eqb-true j i w) (get_or-set_same entries i (record { start = at; previous = get_or lasts b None }) no_entry (omega (arith, f.all-entries)) ∙ rw (p, f.headed b u, q))
        go false w = get_or-set_other entries i j (record { start = at; previous = get_or lasts b None }) no_entry (eqb-false j i w) ∙ f.entered j (omega (arith, eqb-false j i w))

    headed-more : (a : ℕ) → a < 1024 → get_or (set lasts b (Some i)) a None ≡ last_in (bucket_at lens letters) a (i + 1)
    headed-more a k = go (eqb a b) refl
      where
        go : (t : Bool) → eqb a b ≡ t → get_or (set lasts b (Some i)) a None ≡ last_in (bucket_at lens letters) a (i + 1)
        go true w = rw (eqb-true a b w) (get_or-set_same lasts b (Some i) None (omega (arith, f.all-lasts)) ∙ sym (last-here (bucket_at lens letters) b i (sym q)))
        go false w = get_or-set_other lasts b a (Some i) None (eqb-false a b w) ∙ (f.headed a k ∙ sym (last-other (bucket_at lens letters) a i (λ y. eqb-false a b w (sym y ∙ sym q))))

    pub filled_more : Filled lens letters (set entries i (record { start = at; previous = get_or lasts b None })) (set lasts b (Some i)) (i + 1)
    filled_more =
        record {
          all-entries = length-set entries i (record { start = at; previous = get_or lasts b None }) ∙ f.all-entries;
          all-lasts = length-set lasts b (Some i) ∙ f.all-lasts;
          entered = entered-more;
          headed = headed-more;
        }
