-- Laws of clocks in tables.
-- Assumes nothing.
use mathlib.Core.Path.{◌≡◌, refl, sym, ◌∙◌, ap}
use mathlib.Core.List.{List, [], ◌∷◌, ◌++◌}
use mathlib.Core.Bool.{Bool, true, false}
use mathlib.Core.Logic.{◌⊎◌, inl, inr}
use Prim.Native.Nat.{ℕ, zero, suc, ◌+◌, ◌-◌, ◌*◌, ◌≤◌, ◌<◌, min}
use native.Mathlib.Omega.{arith}
use native.Mathlib.Numerals.{add-one}
use lib.ListN.{length, get_or, set, take, drop, replicate, length-append, length-set, length-drop, get_or-append, get_or-eq_default}
use lib.Seq.{get_or-append-add, get_or-set_same, get_or-set_other}
use lib.Dec.{ltb}
use Rattle.std.proofs.lemmas.List.{ext_get_or, get_or-take, get_or-drop, get_or-replicate, length-replicate, length-take-le}
use borrow.Author.Tests.{ltb-true, ltb-false, lt-ltb}
use Rattle.definitions.specs.declared.Test.{Test}
use Rattle.definitions.specs.declared.Condition.{Condition}
use Rattle.definitions.specs.Lists.{choose, over}
use Rattle.definitions.specs.Clock.{Clock, base, ◌↓◌, depth}
use Rattle.shapes.proofs.Facts.{over-long}
use Rattle.clock_tables.specs.Value.{at, clock_at}
use Rattle.clock_tables.proofs.ClockLaws.{depth-at, base-at, clock-push}
use Rattle.clock_tables.specs.Flat.{word_of, test_of, condition_at, conditions_from, depth_in, clock_in, condition_words, words_of, clock_words, with_clock}

pub test_word : (k : Test) → test_of (word_of k) ≡ k
test_word Test.On = refl
test_word Test.Not = refl

pub clock-past : (t : List ℕ) (b : ℕ) → length t ≤ b → clock_in t b ≡ base
clock-past t b h = base-at (conditions_from t (b + 1) 8) (depth_in t b) (rw (get_or-eq_default t 0 h))

-- a place as far as there are places
pub place-far : (t : List ℕ) (p r : ℕ) → length t ≤ 18446744073709551615 → r ≡ min p 18446744073709551615 → clock_in t r ≡ clock_in t p
place-far t p r l e = go (ltb p 18446744073709551615) refl
  where
    go : (b : Bool) → ltb p 18446744073709551615 ≡ b → clock_in t r ≡ clock_in t p
    go true q = let u : p < 18446744073709551615 = ltb-true _ _ q in let f : r ≡ p = omega arith in ap (clock_in t) f
    go false q = let u : 18446744073709551615 ≤ p = ltb-false _ _ q in clock-past t r (omega arith) ∙ sym (clock-past t p (omega arith))

-- the condition at i of those from p on
pub at_from : (t : List ℕ) (p n i : ℕ) → i < n → at (conditions_from t p n) i ≡ condition_at t (p + 2 * i)
unfolding conditions_from
at_from t p zero i h = absurd (omega arith)
at_from t p (suc n) zero h = let e : p + 2 * 0 ≡ p = omega arith in rw e
at_from t p (suc n) (suc i) h =
    let l : i < n = omega arith in
    let e : p + 2 * suc i ≡ p + 2 + 2 * i = omega arith in
    at_from t (p + 2) n i l ∙ rw e

-- clocks of lists that agree
pub clock-ext : (ks ls : List Condition) (d : ℕ) → ((i : ℕ) → i < d → at ks i ≡ at ls i) → clock_at ks d ≡ clock_at ls d
unfolding clock_at
clock-ext ks ls zero h = refl
clock-ext ks ls (suc d) h =
    let l : d < suc d = omega arith in
    rw (h d l, clock-ext ks ls d (λ i u. h i (omega arith)))

pub clock-more : (ks : List Condition) (d : ℕ) → clock_at ks (d + 1) ≡ clock_at ks d ↓ at ks d
unfolding clock_at
clock-more ks d = rw (add-one d)

-- one condition more copied out of a table
pub load-more : (ks : List Condition) (t : List ℕ) (f i : ℕ) (k : Condition) → length ks ≡ 8 → i < 8 → k ≡ condition_at t (f + 2 * i) → clock_at ks i ≡ clock_at (conditions_from t f 8) i
    → clock_at (set ks i k) (i + 1) ≡ clock_at (conditions_from t f 8) (i + 1)
load-more ks t f i k n l e h =
    let m : i < length ks = omega arith in
    clock-push ks i k m ∙ rw (clock-more (conditions_from t f 8) i, at_from t f 8 i l, e, h)

-- ---- words that stay
module _ (t t' : List ℕ) where
  conditions-same : (p n : ℕ) → ((i : ℕ) → p ≤ i → i < p + 2 * n → get_or t' i 0 ≡ get_or t i 0) → conditions_from t' p n ≡ conditions_from t p n
  unfolding conditions_from
  conditions-same p zero h = refl
  conditions-same p (suc n) h =
      let a : get_or t' p 0 ≡ get_or t p 0 = h p (omega arith) (omega arith) in
      let b : get_or t' (p + 1) 0 ≡ get_or t (p + 1) 0 = h (p + 1) (omega arith) (omega arith) in
      rw (a, b, conditions-same (p + 2) n (λ i u v. h i (omega arith) (omega arith)))

  -- a clock is its seventeen words
  pub clock-same : (b : ℕ) → ((i : ℕ) → b ≤ i → i < b + 17 → get_or t' i 0 ≡ get_or t i 0) → clock_in t' b ≡ clock_in t b
  clock-same b h =
      let a : get_or t' b 0 ≡ get_or t b 0 = h b (omega arith) (omega arith) in
      rw (a, conditions-same (b + 1) 8 (λ i u v. h i (omega arith) (omega arith)))

-- ---- the words of a clock
module _ (ks : List Condition) where
  words-length : (d : ℕ) → length (condition_words (clock_at ks d)) ≡ 2 * d
  unfolding clock_at condition_words
  words-length zero = refl
  words-length (suc d) = omega (arith, length-append (condition_words (clock_at ks d)) ((at ks d).name ∷ word_of (at ks d).test ∷ []), words-length d)

  words-here : (d j : ℕ) → j < d → (get_or (condition_words (clock_at ks d)) (2 * j) 0 ≡ (at ks j).name) × (get_or (condition_words (clock_at ks d)) (2 * j + 1) 0 ≡ word_of (at ks j).test)
  unfolding clock_at condition_words
  words-here zero j h = absurd (omega arith)
  words-here (suc d) j h = go (words-here d j) (ltb j d) refl
    where
      first : List ℕ
      first = condition_words (clock_at ks d)

      last : List ℕ
      last = (at ks d).name ∷ word_of (at ks d).test ∷ []

      go : (j < d → (get_or first (2 * j) 0 ≡ (at ks j).name) × (get_or first (2 * j + 1) 0 ≡ word_of (at ks j).test)) → (b : Bool) → ltb j d ≡ b → (get_or (first ++ last) (2 * j) 0 ≡ (at ks j).name) × (get_or (first ++ last) (2 * j + 1) 0 ≡ word_of (at ks j).test)
      go here true e =
          let l : j < d = ltb-true j d e in
          let r = here l in
          (get_or-append first last 0 (2 * j) (omega (arith, words-length d)) ∙ r.0, get_or-append first last 0 (2 * j + 1) (omega (arith, words-length d)) ∙ r.1)
      go here false e =
          let q : j ≡ d = omega (arith, ltb-false j d e) in
          let y : 2 * j ≡ length first + 0 = omega (arith, words-length d) in
          let z : 2 * j + 1 ≡ length first + 1 = omega (arith, words-length d) in
          (rw (y, get_or-append-add first last 0 0, q), rw (z, get_or-append-add first last 1 0, q))

  words-past : (d i : ℕ) → 2 * d ≤ i → get_or (condition_words (clock_at ks d)) i 0 ≡ 0
  words-past d i h = get_or-eq_default (condition_words (clock_at ks d)) 0 (omega (arith, words-length d))

-- ---- storing
-- condition j of the first d; past them one whose words are 0
abbrev pub kept : List Condition → ℕ → ℕ → Condition
kept ks d j = choose (ltb j d) (at ks j) (record { name = 0; test = Test.Not })

pub kept_here : (ks : List Condition) (d j : ℕ) → j < d → at ks j ≡ kept ks d j
kept_here ks d j h = rw (lt-ltb j d h)

-- the words of the first n of these conditions, from f on
abbrev pub Stored : List ℕ → ℕ → (ℕ → Condition) → ℕ → Type 0
Stored t f ks n = (j : ℕ) → j < n → (get_or t (f + 2 * j) 0 ≡ (ks j).name) × (get_or t (f + 2 * j + 1) 0 ≡ word_of (ks j).test)

-- a table changed nowhere but in the w words at f
abbrev pub Within : List ℕ → List ℕ → ℕ → ℕ → Type 0
Within t t' f w = (i : ℕ) → (i < f) ⊎ (f + w ≤ i) → get_or t' i 0 ≡ get_or t i 0

module _ (t : List ℕ) (p : ℕ) (k : Condition) where
  -- a table with a condition put at p
  abbrev pub put : List ℕ
  put = set (set t p k.name) (p + 1) (word_of k.test)

  put-here : p + 2 ≤ length t → (get_or put p 0 ≡ k.name) × (get_or put (p + 1) 0 ≡ word_of k.test)
  put-here h =
      let n : p ≡ p + 1 → ⊥ = omega arith in
      let l : p < length t = omega arith in
      let m : p + 1 < length (set t p k.name) = simp length-set (omega arith) in
      (get_or-set_other (set t p k.name) (p + 1) p (word_of k.test) 0 n ∙ get_or-set_same t p k.name 0 l, get_or-set_same (set t p k.name) (p + 1) (word_of k.test) 0 m)

halves : (m : ℕ) → (j : ℕ) × ((m ≡ 2 * j) ⊎ (m ≡ 2 * j + 1))
halves zero = (0, inl refl)
halves (suc m) = go (halves m)
  where
    go : (j : ℕ) × ((m ≡ 2 * j) ⊎ (m ≡ 2 * j + 1)) → (j : ℕ) × ((suc m ≡ 2 * j) ⊎ (suc m ≡ 2 * j + 1))
    go (j, inl e) = (j, inr (omega arith))
    go (j, inr e) = (suc j, inl (omega arith))

-- the sixteen words behind the first
module _ (t : List ℕ) (f d : ℕ) (ks : List Condition) (h : Stored t f (kept ks d) 8) where
  pair-stored : (j : ℕ) → j < 8 → (get_or t (f + 2 * j) 0 ≡ get_or (condition_words (clock_at ks d)) (2 * j) 0) × (get_or t (f + 2 * j + 1) 0 ≡ get_or (condition_words (clock_at ks d)) (2 * j + 1) 0)
  pair-stored j u = go (ltb j d) refl
    where
      go : (b : Bool) → ltb j d ≡ b → (get_or t (f + 2 * j) 0 ≡ get_or (condition_words (clock_at ks d)) (2 * j) 0) × (get_or t (f + 2 * j + 1) 0 ≡ get_or (condition_words (clock_at ks d)) (2 * j + 1) 0)
      go true e =
          let r : (get_or t (f + 2 * j) 0 ≡ (at ks j).name) × (get_or t (f + 2 * j + 1) 0 ≡ word_of (at ks j).test) = rw e at (h j u) in
          let w = words-here ks d j (ltb-true j d e) in
          (r.0 ∙ sym w.0, r.1 ∙ sym w.1)
      go false e =
          let r : (get_or t (f + 2 * j) 0 ≡ 0) × (get_or t (f + 2 * j + 1) 0 ≡ 0) = rw e at (h j u) in
          let l : d ≤ j = omega (arith, ltb-false j d e) in
          (r.0 ∙ sym (words-past ks d (2 * j) (omega arith)), r.1 ∙ sym (words-past ks d (2 * j + 1) (omega arith)))

  words-stored : (m : ℕ) → m < 16 → get_or t (f + m) 0 ≡ get_or (condition_words (clock_at ks d)) m 0
  words-stored m u = go (halves m)
    where
      go : (j : ℕ) × ((m ≡ 2 * j) ⊎ (m ≡ 2 * j + 1)) → get_or t (f + m) 0 ≡ get_or (condition_words (clock_at ks d)) m 0
      go (j, inl e) = rw e (pair-stored j (omega arith)).0
      go (j, inr e) = let a : f + (2 * j + 1) ≡ f + 2 * j + 1 = omega arith in rw (e, a) (pair-stored j (omega arith)).1

  condition-stored : (j : ℕ) → d ≤ 8 → j < d → condition_at t (f + 2 * j) ≡ at ks j
  condition-stored j l u =
      let r : (get_or t (f + 2 * j) 0 ≡ (at ks j).name) × (get_or t (f + 2 * j + 1) 0 ≡ word_of (at ks j).test) = rw (sym (kept_here ks d j u)) at (h j (omega arith)) in
      rw (r.0, r.1, test_word (at ks j).test)

-- all are stored
pub stored : (t : List ℕ) (b i : ℕ) (ks : List Condition) → length ks ≤ 8 → i ≡ length ks → get_or t b 0 ≡ length ks + 1 → Stored t (b + 1) (kept ks i) 8
    → (clock_in t b ≡ clock_at ks (length ks)) × ((j : ℕ) → j < 17 → get_or t (b + j) 0 ≡ get_or (words_of (clock_at ks (length ks))) j 0)
stored t b i ks few e w h =
    let v : depth_in t b ≡ length ks = rw w (omega arith) in
    let g : Stored t (b + 1) (kept ks (length ks)) 8 = rw e at h in
    (rw v (clock-ext (conditions_from t (b + 1) 8) ks (length ks) (λ m u. at_from t (b + 1) 8 m (omega arith) ∙ condition-stored t (b + 1) (length ks) ks g m few u)), words g)
  where
    words : Stored t (b + 1) (kept ks (length ks)) 8 → (j : ℕ) → j < 17 → get_or t (b + j) 0 ≡ get_or (words_of (clock_at ks (length ks))) j 0
    words g zero u = let a : b + 0 ≡ b = omega arith in rw a (w ∙ omega (arith, depth-at ks (length ks)))
    words g (suc m) u = let a : b + suc m ≡ b + 1 + m = omega arith in rw a (words-stored t (b + 1) (length ks) ks g m (omega arith))

-- ---- a list over the front of another
pub over-in : (l s : List ℕ) (i : ℕ) → i < length l → i < length s → get_or (over l s) i 0 ≡ get_or l i 0
over-in [] s i h k = absurd (omega arith)
over-in (a ∷ l) [] i h k = absurd (omega arith)
over-in (a ∷ l) (b ∷ s) zero h k = refl
over-in (a ∷ l) (b ∷ s) (suc i) h k = over-in l s i (omega arith) (omega arith)

pub over-after : (l s : List ℕ) (i : ℕ) → length l ≤ i → get_or (over l s) i 0 ≡ get_or s i 0
over-after [] s i h = refl
over-after (a ∷ l) [] i h = refl
over-after (a ∷ l) (b ∷ s) zero h = absurd (omega arith)
over-after (a ∷ l) (b ∷ s) (suc i) h = over-after l s i (omega arith)

-- ---- a clock's seventeen words
pub words_long : (c : Clock) → length (clock_words c) ≡ 17
unfolding clock_words
words_long c = over-long (words_of c) (replicate 17 0) ∙ length-replicate {A = ℕ} 17 0

word-own : (c : Clock) (j : ℕ) → j < 17 → get_or (clock_words c) j 0 ≡ get_or (words_of c) j 0
unfolding clock_words
word-own c j h = go (ltb j (length (words_of c))) refl
  where
    go : (b : Bool) → ltb j (length (words_of c)) ≡ b → get_or (over (words_of c) (replicate 17 0)) j 0 ≡ get_or (words_of c) j 0
    go true e = over-in (words_of c) (replicate 17 0) j (ltb-true _ _ e) (omega (arith, h, length-replicate {A = ℕ} 17 0))
    go false e =
        let l : length (words_of c) ≤ j = ltb-false _ _ e in
        over-after (words_of c) (replicate 17 0) j l ∙ (get_or-replicate 17 j 0 0 h ∙ sym (get_or-eq_default (words_of c) 0 l))

-- a table that has them there, and is the same elsewhere
pub put-there : (e t : List ℕ) (b : ℕ) (c : Clock) → b + 17 ≤ length e → length t ≡ length e → Within e t b 17 → ((j : ℕ) → j < 17 → get_or t (b + j) 0 ≡ get_or (words_of c) j 0) → t ≡ with_clock b c e
put-there e t b c room len same own = ext_get_or 0 t (with_clock b c e) long (λ i u. go i (ltb i b) (ltb i (b + 17)) refl refl)
  where
    w : List ℕ
    w = clock_words c

    s : List ℕ
    s = drop b e

    front : length (take b e) ≡ b
    front = length-take-le b e (omega arith)

    rest : length s ≡ length e - b
    rest = length-drop b e

    long : length t ≡ length (take b e ++ over w s)
    long = omega (arith, len, room, front, rest, over-long w s, length-append (take b e) (over w s))

    behind : (j : ℕ) → get_or (take b e ++ over w s) (b + j) 0 ≡ get_or (over w s) j 0
    behind j = let z : b + j ≡ length (take b e) + j = omega (arith, front) in rw z (get_or-append-add (take b e) (over w s) j 0)

    go : (i : ℕ) (m n : Bool) → ltb i b ≡ m → ltb i (b + 17) ≡ n → get_or t i 0 ≡ get_or (take b e ++ over w s) i 0
    go i true n x y =
        let l : i < b = ltb-true _ _ x in
        same i (inl l) ∙ sym (get_or-append (take b e) (over w s) 0 i (omega (arith, front, l)) ∙ get_or-take b e i 0 l)
    go i false true x y =
        let z : i ≡ b + (i - b) = omega (arith, ltb-false _ _ x) in
        let l : i - b < 17 = omega (arith, ltb-false _ _ x, ltb-true _ _ y) in
        rw z (own (i - b) l ∙ sym (behind (i - b) ∙ (over-in w s (i - b) (omega (arith, l, words_long c)) (omega (arith, l, rest, room)) ∙ word-own c (i - b) l)))
    go i false false x y =
        let k : b + 17 ≤ i = ltb-false _ _ y in
        let z : i ≡ b + (i - b) = omega arith in
        same i (inr k) ∙ sym (ap (λ n. get_or (take b e ++ over w s) n 0) z ∙ (behind (i - b) ∙ (over-after w s (i - b) (omega (arith, k, words_long c)) ∙ (get_or-drop b e (i - b) 0 ∙ ap (λ n. get_or e n 0) (sym z)))))

-- ---- loading
module _ (t : List ℕ) where
  pub depth-in : (b : ℕ) → depth (clock_in t b) ≡ depth_in t b
  depth-in b = depth-at (conditions_from t (b + 1) 8) (depth_in t b)
