-- Laws on the numbers of new names: among one more number than names taken, one is free.
use Prim.Native.Nat.{ℕ, zero, suc, ◌+◌, ◌-◌, ◌^◌, ◌≤◌, ◌<◌}
use mathlib.Core.Path.{◌≡◌, refl, sym, ap, ◌∙◌}
use mathlib.Core.Bool.{Bool, true, false, ◌||◌, not}
use mathlib.Core.List.{List, [], ◌∷◌, ◌++◌, map, map-append}
use native.Mathlib.Nat.{zero-add, suc-add, add-suc, add-zero}
use native.Mathlib.Numerals.{add-one}
use native.Mathlib.Omega.{arith}
use lib.Dec.{eqb, ltb}
use lib.ListN.{length, get_or, take, set, length-append}
use lib.Seq.{get_or-append_seam, take_all, take-suc-set}
use borrow.Author.Tests.{eqb-true, eqb-false, ltb-true, ltb-false}
use Rattle.definitions.specs.Lists.{choose, any, keep, up_from, Letters, same_letters, decimal}
use Rattle.std.specs.Prelude.{Option, Some, None}
use Rattle.std.specs.Option.{MatchOption, unwrap_or}
use Rattle.definitions.specs.Tree.{Node}
use Rattle.definitions.specs.Declock.{Stem}
use Rattle.definitions.specs.Output.{stem_letters, new_letters}
use Rattle.std.proofs.lemmas.List.{length-map}
use Rattle.shapes.proofs.Facts.{letters-eq}
use Rattle.spelling.proofs.Stems.{new-same}
use Rattle.spelling.specs.declared.StemName.{StemName}
use Rattle.spelling.specs.declared.TakenNames.{TakenNames}
use Rattle.spelling.specs.Stems.{stem_of}
use Rattle.spelling.specs.Places.{letters_in}
use Rattle.spelling.specs.Free.{is_free, seek, next_free, free_below, new_number, new_numbers, taken_of}

-- ---- tests and lists
pub up-add : (k m n : ℕ) → up_from k (m + n) ≡ up_from k m ++ up_from (k + m) n
up-add k zero n = rw (zero-add n, add-zero k)
up-add k (suc m) n = rw (suc-add m n) (ap (λ l. k ∷ l) (up-add (suc k) m n ∙ ap (λ i. up_from (suc k) m ++ up_from i n) (suc-add k m ∙ sym (add-suc k m))))

pub up-length : (k n : ℕ) → length (up_from k n) ≡ n
up-length k zero = refl
up-length k (suc n) = ap suc (up-length (suc k) n)

module _ {A : Type 0} where
  keep_append : (p : A → Bool) (a b : List A) → keep p (a ++ b) ≡ keep p a ++ keep p b
  keep_append p [] b = refl
  keep_append p (x ∷ a) b = go (p x) (keep_append p a b)
    where
      go : (t : Bool) → keep p (a ++ b) ≡ keep p a ++ keep p b → choose t (x ∷ keep p (a ++ b)) (keep p (a ++ b)) ≡ choose t (x ∷ keep p a) (keep p a) ++ keep p b
      go true e = ap (λ l. x ∷ l) e
      go false e = e

  -- those that pass, and those that do not
  keep-split : (p : A → Bool) (l : List A) → length (keep (λ a. not (p a)) l) + length (keep p l) ≡ length l
  keep-split p [] = refl
  keep-split p (x ∷ l) = go (p x) (keep-split p l)
    where
      go : (t : Bool) → length (keep (λ a. not (p a)) l) + length (keep p l) ≡ length l
          → length (choose (not t) (x ∷ keep (λ a. not (p a)) l) (keep (λ a. not (p a)) l)) + length (choose t (x ∷ keep p l) (keep p l)) ≡ suc (length l)
      go true e = omega arith
      go false e = omega arith

  -- those that pass one of two tests are no more than those of both together
  keep-or : (p q : A → Bool) (l : List A) → length (keep (λ a. p a || q a) l) ≤ length (keep p l) + length (keep q l)
  keep-or p q [] = omega arith
  keep-or p q (x ∷ l) = go (p x) (q x) (keep-or p q l)
    where
      go : (t u : Bool) → length (keep (λ a. p a || q a) l) ≤ length (keep p l) + length (keep q l)
          → length (choose (t || u) (x ∷ keep (λ a. p a || q a) l) (keep (λ a. p a || q a) l)) ≤ length (choose t (x ∷ keep p l) (keep p l)) + length (choose u (x ∷ keep q l) (keep q l))
      go true true e = omega arith
      go true false e = omega arith
      go false true e = omega arith
      go false false e = omega arith

  keep-false : (l : List A) → keep (λ a. false) l ≡ []
  keep-false [] = refl
  keep-false (x ∷ l) = keep-false l

-- no number passes
keep-none : (p : ℕ → Bool) (k n : ℕ) → ((i : ℕ) → k ≤ i → i < k + n → p i ≡ false) → keep p (up_from k n) ≡ []
keep-none p k zero h = refl
keep-none p k (suc n) h = rw (h k (omega arith) (omega arith)) (keep-none p (suc k) n (λ i u v. h i (omega arith) (omega arith)))

-- at most one number has these letters
module _ (f : ℕ → Letters) (most : ℕ) (inj : (i j : ℕ) → i < most → j < most → f i ≡ f j → i ≡ j) where
  once : (t : Letters) (k n : ℕ) → k + n ≤ most → length (keep (λ i. same_letters (f i) t) (up_from k n)) ≤ 1
  once t k zero h = omega arith
  once t k (suc n) h = go (same_letters (f k) t) refl (once t (suc k) n (omega arith))
    where
      rest : same_letters (f k) t ≡ true → (i : ℕ) → suc k ≤ i → i < suc k + n → (u : Bool) → same_letters (f i) t ≡ u → u ≡ false
      rest e i a b true g = absurd (let z : i ≡ k = inj i k (omega arith) (omega arith) (letters-eq (f i) t g ∙ sym (letters-eq (f k) t e)) in omega arith)
      rest e i a b false g = refl

      go : (u : Bool) → same_letters (f k) t ≡ u → length (keep (λ i. same_letters (f i) t) (up_from (suc k) n)) ≤ 1
          → length (choose u (k ∷ keep (λ i. same_letters (f i) t) (up_from (suc k) n)) (keep (λ i. same_letters (f i) t) (up_from (suc k) n))) ≤ 1
      go true e h = omega (arith, ap length (keep-none (λ i. same_letters (f i) t) (suc k) n (λ i a b. rest e i a b (same_letters (f i) t) refl)))
      go false e h = h

  -- as many numbers as names, at most, are taken
  hits : (ts : List Letters) (k n : ℕ) → k + n ≤ most → length (keep (λ i. any (same_letters (f i)) ts) (up_from k n)) ≤ length ts
  hits [] k n h = omega (arith, ap length (keep-false (up_from k n)))
  hits (t ∷ ts) k n h =
      omega (arith, keep-or (λ i. same_letters (f i) t) (λ i. any (same_letters (f i)) ts) (up_from k n), once t k n h, hits ts k n h)

module _ (taken : List Letters) (stem : Stem) where
  -- a number is free where letters that are its name are none of those taken
  pub free-told : (k : ℕ) (p : Letters) {r : Bool} → p ≡ stem_letters stem ++ decimal k → r ≡ any (same_letters p) taken → not r ≡ is_free taken stem k
  unfolding is_free
  free-told k p e f = ap not (f ∙ ap (λ n. any (same_letters n) taken) e)

  -- ---- the search, one number at a time
  step : (n k : ℕ) (t : Bool) → is_free taken stem k ≡ t → seek taken stem (suc n) k ≡ choose t k (seek taken stem n (suc k))
  unfolding seek
  step n k t e = rw e

  seek-end : (k left : ℕ) → left ≡ 0 → seek taken stem left k ≡ k
  unfolding seek
  seek-end k left e = rw e

  -- ---- what the search finds
  pub seek-within : (n k : ℕ) → (k ≤ seek taken stem n k) × (seek taken stem n k ≤ k + n)
  unfolding seek
  seek-within zero k = (omega arith, omega arith)
  seek-within (suc n) k = go (is_free taken stem k) refl (seek-within n (suc k))
    where
      go : (t : Bool) → is_free taken stem k ≡ t → (suc k ≤ seek taken stem n (suc k)) × (seek taken stem n (suc k) ≤ suc k + n)
          → (k ≤ seek taken stem (suc n) k) × (seek taken stem (suc n) k ≤ k + suc n)
      go true e h = (omega (arith, step n k true e), omega (arith, step n k true e))
      go false e h = (omega (arith, step n k false e, h.0), omega (arith, step n k false e, h.1))

  -- what is passed is not free
  seek-below : (n k i : ℕ) → k ≤ i → i < seek taken stem n k → is_free taken stem i ≡ false
  seek-below zero k i a b = absurd (omega (arith, seek-end k 0 refl))
  seek-below (suc n) k i a b = go (is_free taken stem k) refl (seek-below n (suc k) i)
    where
      go : (t : Bool) → is_free taken stem k ≡ t → (suc k ≤ i → i < seek taken stem n (suc k) → is_free taken stem i ≡ false) → is_free taken stem i ≡ false
      go true e h = absurd (omega (arith, step n k true e))
      go false e h = here (eqb i k) refl
        where
          here : (t : Bool) → eqb i k ≡ t → is_free taken stem i ≡ false
          here true q = rw (eqb-true i k q) e
          here false q = let ne : i ≡ k → ⊥ = eqb-false i k q in h (omega arith) (omega (arith, step n k false e))

  -- what is found before the last trial is free
  seek-free : (n k : ℕ) → seek taken stem n k < k + n → is_free taken stem (seek taken stem n k) ≡ true
  seek-free zero k h = absurd (omega (arith, seek-end k 0 refl))
  seek-free (suc n) k h = go (is_free taken stem k) refl (seek-free n (suc k))
    where
      go : (t : Bool) → is_free taken stem k ≡ t → (seek taken stem n (suc k) < suc k + n → is_free taken stem (seek taken stem n (suc k)) ≡ true) → is_free taken stem (seek taken stem (suc n) k) ≡ true
      go true e g = rw (step n k true e) e
      go false e g = rw (step n k false e) (g (omega (arith, step n k false e)))

  -- what a search from k on answers
  seek-none : (n k : ℕ) → ((i : ℕ) → k ≤ i → i < k + n → is_free taken stem i ≡ false) → seek taken stem n k ≡ k + n
  seek-none zero k h = omega (arith, seek-end k 0 refl)
  seek-none (suc n) k h = step n k false (h k (omega arith) (omega arith)) ∙ (seek-none n (suc k) (λ i a b. h i (omega arith) (omega arith)) ∙ omega arith)

  seek-some : (n k i : ℕ) → k ≤ i → i < k + n → is_free taken stem i ≡ true → ((j : ℕ) → k ≤ j → j < i → is_free taken stem j ≡ false) → seek taken stem n k ≡ i
  seek-some zero k i a b f h = absurd (omega arith)
  seek-some (suc n) k i a b f h = go (eqb k i) refl (λ c. seek-some n (suc k) i c (omega arith) f (λ j u v. h j (omega arith) v))
    where
      go : (t : Bool) → eqb k i ≡ t → (suc k ≤ i → seek taken stem n (suc k) ≡ i) → seek taken stem (suc n) k ≡ i
      go true e r = let z : k ≡ i = eqb-true k i e in step n k true (ap (is_free taken stem) z ∙ f) ∙ z
      go false e r =
          let z : k ≡ i → ⊥ = eqb-false k i e in
          step n k false (h k (omega arith) (omega arith)) ∙ r (omega arith)

  pub found-next : (k last : ℕ) (o : Option ℕ) → last ≡ k + length taken
      → MatchOption o ((j : ℕ) → k ≤ j → j < last → is_free taken stem j ≡ false) (λ i. (k ≤ i) × (i < last) × (is_free taken stem i ≡ true) × ((j : ℕ) → k ≤ j → j < i → is_free taken stem j ≡ false))
      → unwrap_or o last ≡ next_free taken stem k
  unfolding next_free
  found-next k last None e m = e ∙ sym (seek-none (length taken) k (λ i a b. m i a (omega arith)))
  found-next k last (Some i) e m = sym (seek-some (length taken) k i m.0 (omega (arith, m.1, e)) m.2 m.3)

  -- ---- one more number than names: one is free
  -- the numbers that are free are no fewer than the others leave
  pub free-many : (k n : ℕ) → k + n ≤ 2 ^ 64 → n ≤ length (keep (is_free taken stem) (up_from k n)) + length taken
  unfolding is_free
  free-many k n h =
      let f : ℕ → Letters = λ i. stem_letters stem ++ decimal i in
      omega (
        arith,
        keep-split (λ i. any (same_letters (f i)) taken) (up_from k n),
        up-length k n,
        hits f (2 ^ 64) (new-same stem) taken k n h,
      )

  pub next-from : (k : ℕ) → k ≤ next_free taken stem k
  unfolding next_free
  next-from k = (seek-within (length taken) k).0

  pub next-most : (k : ℕ) → next_free taken stem k ≤ k + length taken
  unfolding next_free
  next-most k = (seek-within (length taken) k).1

  pub next-skips : (k i : ℕ) → k ≤ i → i < next_free taken stem k → is_free taken stem i ≡ false
  unfolding next_free
  next-skips k i a b = seek-below (length taken) k i a b

  pub next-is-free : (k : ℕ) → k + length taken < 2 ^ 64 → is_free taken stem (next_free taken stem k) ≡ true
  unfolding next_free
  next-is-free k h = go (is_free taken stem r) refl
    where
      r : ℕ
      r = seek taken stem (length taken) k

      none : is_free taken stem r ≡ false → r ≡ k + length taken → (i : ℕ) → k ≤ i → i < k + suc (length taken) → (t : Bool) → ltb i r ≡ t → is_free taken stem i ≡ false
      none e f i a b true q = seek-below (length taken) k i a (ltb-true i r q)
      none e f i a b false q = let z : i ≡ r = omega (arith, ltb-false i r q) in rw z e

      go : (t : Bool) → is_free taken stem r ≡ t → is_free taken stem r ≡ true
      go true e = e
      go false e = last (ltb r (k + length taken)) refl
        where
          last : (t : Bool) → ltb r (k + length taken) ≡ t → is_free taken stem r ≡ true
          last true q = seek-free (length taken) k (ltb-true r (k + length taken) q)
          last false q =
              let f : r ≡ k + length taken = omega (arith, ltb-false r (k + length taken) q, (seek-within (length taken) k).1) in
              absurd (omega (
                arith,
                free-many k (suc (length taken)) (omega arith),
                ap length (keep-none (is_free taken stem) k (suc (length taken)) (λ i a b. none e f i a b (ltb i r) refl)),
              ))

  -- ---- how many are free below a number
  below-same : (k n : ℕ) → ((i : ℕ) → k ≤ i → i < k + n → is_free taken stem i ≡ false) → free_below taken stem (k + n) ≡ free_below taken stem k
  unfolding free_below
  below-same k n h =
      let z : 0 + k ≡ k = omega arith in
      ap length (ap (keep (is_free taken stem)) (up-add 0 k n ∙ ap (λ j. up_from 0 k ++ up_from j n) z) ∙ keep_append (is_free taken stem) (up_from 0 k) (up_from k n))
      ∙ length-append (keep (is_free taken stem) (up_from 0 k)) (keep (is_free taken stem) (up_from k n)) ∙ rw (keep-none (is_free taken stem) k n h) (add-zero (length (keep (is_free taken stem) (up_from 0 k))))

  pub below_none : free_below taken stem 0 ≡ 0
  unfolding free_below
  below_none = refl

  -- to the next free number there is none
  pub below_next : (k : ℕ) → free_below taken stem (next_free taken stem k) ≡ free_below taken stem k
  below_next k =
      let e : k + (next_free taken stem k - k) ≡ next_free taken stem k = omega (arith, next-from k) in
      ap (free_below taken stem) (sym e) ∙ below-same k (next_free taken stem k - k) (λ i a b. next-skips k i a (omega arith))

  -- the free numbers up to r, and from there on
  cut-free : (r d : ℕ) → is_free taken stem r ≡ true → keep (is_free taken stem) (up_from 0 (r + suc d)) ≡ keep (is_free taken stem) (up_from 0 r) ++ (r ∷ keep (is_free taken stem) (up_from (suc r) d))
  cut-free r d e =
      let z : 0 + r ≡ r = omega arith in
      ap (keep (is_free taken stem)) (up-add 0 r (suc d) ∙ ap (λ j. up_from 0 r ++ up_from j (suc d)) z) ∙ keep_append (is_free taken stem) (up_from 0 r) (up_from r (suc d))
      ∙ ap (λ t. keep (is_free taken stem) (up_from 0 r) ++ choose t (r ∷ keep (is_free taken stem) (up_from (suc r) d)) (keep (is_free taken stem) (up_from (suc r) d))) e

  pub below_more : (r : ℕ) → is_free taken stem r ≡ true → free_below taken stem (r + 1) ≡ free_below taken stem r + 1
  unfolding free_below
  below_more r e = ap length (cut-free r 0 e) ∙ length-append (keep (is_free taken stem) (up_from 0 r)) (r ∷ [])

  -- a free number's place among the free ones is how many are below it
  pub free-place : (r m : ℕ) → is_free taken stem r ≡ true → r < m → get_or (keep (is_free taken stem) (up_from 0 m)) (free_below taken stem r) 0 ≡ r
  unfolding free_below
  free-place r m e h =
      let z : m ≡ r + suc (m - suc r) = omega arith in
      rw (z, cut-free r (m - suc r) e) (get_or-append_seam (keep (is_free taken stem) (up_from 0 r)) r (keep (is_free taken stem) (up_from (suc r) (m - suc r))) 0)

  -- a number is no more than those free and those taken below it
  pub below-many : (r : ℕ) → r ≤ 2 ^ 64 → r ≤ free_below taken stem r + length taken
  unfolding free_below
  below-many r h = free-many 0 r (omega arith)

-- ---- new names
module _ (taken : List Letters) (stem : Stem) (k : ℕ) (h : k + length taken < 2 ^ 64) where
  -- where j numbers below k are free, the j-th free number is the next from k on
  pub number-next : new_number taken stem (free_below taken stem k) ≡ next_free taken stem k
  unfolding new_number
  number-next =
      let r = next_free taken stem k in
      let j = free_below taken stem k in
      let e : free_below taken stem r ≡ j = below_next taken stem k in
      let b : r < length taken + suc j = omega (arith, below-many taken stem r (omega (arith, next-most taken stem k)), e) in
      ap (λ i. get_or (keep (is_free taken stem) (up_from 0 (length taken + suc j))) i 0) (sym e)
      ∙ free-place taken stem r (length taken + suc j) (next-is-free taken stem k h) b

  -- and below the number after it one more is free
  pub number-after : free_below taken stem (next_free taken stem k + 1) ≡ free_below taken stem k + 1
  number-after = below_more taken stem (next_free taken stem k) (next-is-free taken stem k h) ∙ ap (λ n. n + 1) (below_next taken stem k)

-- a node's j-th new name of a stem is the stem with the j-th free number
pub new-letters : (names : List Letters) (node : Node) (stem : Stem) (j : ℕ) → new_letters names node stem j ≡ stem_letters stem ++ decimal (new_number (taken_of names node) stem j)
unfolding new_letters new_number is_free
new-letters names node stem j = refl

-- the names that these are
abbrev pub names_taken : TakenNames → List Letters
names_taken t = map (letters_in t.spelling) t.ids.now

-- so many numbers are written, and as many below the next to be tried are free
pub record Numbering (t : TakenNames) (stem : StemName) (i from : ℕ) (out : List ℕ) : Type 0 where
  pub near : from ≤ i + length t.ids.now
  pub below : free_below (names_taken t) (stem_of stem) from ≡ i
  pub written : take i out ≡ new_numbers (names_taken t) (stem_of stem) i

module _ {t : TakenNames} {stem : StemName} where
  pub numbering_none : {out : List ℕ} → Numbering t stem 0 0 out
  numbering_none = record { near = omega arith; below = below_none (names_taken t) (stem_of stem); written = refl }

  module _ {i from : ℕ} {out : List ℕ} (h : Numbering t stem i from out) where
    as-many : length (names_taken t) ≡ length t.ids.now
    as-many = length-map t.ids.now (letters_in t.spelling)

    pub number-near : {r : ℕ} → r ≡ next_free (names_taken t) (stem_of stem) from → r ≤ i + (length t.ids.now + length t.ids.now)
    number-near f = omega (arith, next-most (names_taken t) (stem_of stem) from, as-many, h.near, f)

    pub numbering_more : {r : ℕ} → r ≡ next_free (names_taken t) (stem_of stem) from → i < length out → i + (length t.ids.now + length t.ids.now) < 2 ^ 64
        → Numbering t stem (i + 1) (r + 1) (set out i r)
    numbering_more {r} f b few =
        let taken = names_taken t in
        let free = stem_of stem in
        let small : from + length taken < 2 ^ 64 = omega (arith, as-many, h.near, few) in
        let e : free_below taken free (r + 1) ≡ i + 1 = ap (λ n. free_below taken free (n + 1)) f ∙ number-after taken free from small ∙ ap (λ n. n + 1) h.below in
        let z : 0 + i ≡ i = omega arith in
        let n : new_number taken free i ≡ r = ap (new_number taken free) (sym h.below) ∙ number-next taken free from small ∙ sym f in
        record {
          near = omega (arith, below-many taken free (r + 1) (omega (arith, number-near f, few)), e, as-many);
          below = e;
          written =
              rw (add-one i) (take-suc-set out i r b ∙ ap (λ l. l ++ (r ∷ [])) h.written)
              ∙ sym (ap (map (new_number taken free)) (up-add 0 i 1) ∙ map-append (new_number taken free) (up_from 0 i) (up_from (0 + i) 1) ∙ ap (λ k. new_numbers taken free i ++ (k ∷ [])) (ap (new_number taken free) z ∙ n));
        }

    pub numbering-end : {n : ℕ} → length out ≡ n → n ≤ i → i ≤ n → out ≡ new_numbers (names_taken t) (stem_of stem) n
    numbering-end {n} e a b = let z : i ≡ n = omega arith in rw z at (sym (take_all i out (omega (arith, e, a))) ∙ h.written)
