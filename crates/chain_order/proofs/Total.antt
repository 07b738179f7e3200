-- The order of chains is total: what is after a clock is after all that this clock is after.
-- So clocks put in one by one stand each after those before it.
-- Assumes nothing.
use mathlib.Core.Path.{◌≡◌, refl, sym, ◌∙◌, ap}
use mathlib.Core.List.{List, [], ◌∷◌}
use mathlib.Core.Bool.{true}
use mathlib.Core.Logic.{◌⊎◌, inl, inr}
use Prim.Native.Nat.compare
use Prim.Native.Nat.{ℕ, zero, suc, ◌+◌, ◌<◌, compare, Ordering}
use native.Mathlib.Omega.{arith, compare-eq, compare-gt}
use lib.ListN.{get_or}
use Rattle.definitions.specs.declared.Condition.{Condition}
use Rattle.definitions.specs.declared.Test.{Test}
use Rattle.definitions.specs.Lists.{Letters}
use Rattle.definitions.specs.Clock.{Clock, conditions, and_then, lexical, condition_order, test_order, chain_order, insert}
use Rattle.chain_order.specs.Order.{row_of, picked, is_after, Before, Rising}
use Rattle.chain_order.proofs.Laws.{compare-more}

-- the order of the two the other way round
abbrev pub swap : Ordering → Ordering
swap Ordering.lt = Ordering.gt
swap Ordering.eq = Ordering.eq
swap Ordering.gt = Ordering.lt

pub record Total {A : Type 0} (f : A → A → Ordering) : Type 0 where
  pub swapped : (a b : A) → f b a ≡ swap (f a b)
  pub alike : (a b c : A) → f a b ≡ Ordering.eq → f a c ≡ f b c
  pub after : (a b c : A) → f a b ≡ Ordering.gt → f b c ≡ Ordering.gt → f a c ≡ Ordering.gt

-- ---- the first order, and where it says same, the second
then-swap : (o p : Ordering) → and_then (swap o) (swap p) ≡ swap (and_then o p)
then-swap Ordering.lt p = refl
then-swap Ordering.eq p = refl
then-swap Ordering.gt p = refl

then-both : (o p : Ordering) → and_then o p ≡ Ordering.eq → (o ≡ Ordering.eq) × (p ≡ Ordering.eq)
then-both Ordering.lt p h = absurd cc
then-both Ordering.eq p h = (refl, h)
then-both Ordering.gt p h = absurd cc

then-gt : (o p : Ordering) → and_then o p ≡ Ordering.gt → (o ≡ Ordering.gt) ⊎ ((o ≡ Ordering.eq) × (p ≡ Ordering.gt))
then-gt Ordering.lt p h = absurd cc
then-gt Ordering.eq p h = inr (refl, h)
then-gt Ordering.gt p h = inl refl

module _ {A : Type 0} (f : A → A → Ordering) (t : Total f) (a b c : A) where
  -- alike on the right
  alike-last : f b c ≡ Ordering.eq → f a b ≡ f a c
  alike-last e =
      let d : f b a ≡ f c a = t.alike b c a e in
      t.swapped b a ∙ (ap swap d ∙ sym (t.swapped c a))

  then-after : (x y z : Ordering) → (x ≡ Ordering.gt → y ≡ Ordering.gt → z ≡ Ordering.gt) → and_then (f a b) x ≡ Ordering.gt → and_then (f b c) y ≡ Ordering.gt → and_then (f a c) z ≡ Ordering.gt
  then-after x y z r h k = go (then-gt (f a b) x h) (then-gt (f b c) y k)
    where
      go : (f a b ≡ Ordering.gt) ⊎ ((f a b ≡ Ordering.eq) × (x ≡ Ordering.gt)) → (f b c ≡ Ordering.gt) ⊎ ((f b c ≡ Ordering.eq) × (y ≡ Ordering.gt)) → and_then (f a c) z ≡ Ordering.gt
      go (inl p) (inl q) = rw (t.after a b c p q)
      go (inl p) (inr (q, v)) = rw (sym (alike-last q) ∙ p)
      go (inr (p, u)) (inl q) = rw (t.alike a b c p ∙ q)
      go (inr (p, u)) (inr (q, v)) = rw (t.alike a b c p ∙ q) (r u v)

-- ---- item by item
module _ {A : Type 0} (f : A → A → Ordering) (t : Total f) where
  lexical-swapped : (k l : List A) → lexical f l k ≡ swap (lexical f k l)
  unfolding lexical
  lexical-swapped [] [] = refl
  lexical-swapped [] (b ∷ l) = refl
  lexical-swapped (a ∷ k) [] = refl
  lexical-swapped (a ∷ k) (b ∷ l) = rw (t.swapped a b, lexical-swapped k l) (then-swap (f a b) (lexical f k l))

  lexical-alike : (k l m : List A) → lexical f k l ≡ Ordering.eq → lexical f k m ≡ lexical f l m
  unfolding lexical
  lexical-alike [] [] m h = refl
  lexical-alike [] (b ∷ l) m h = absurd cc
  lexical-alike (a ∷ k) [] m h = absurd cc
  lexical-alike (a ∷ k) (b ∷ l) [] h = refl
  lexical-alike (a ∷ k) (b ∷ l) (c ∷ m) h =
      let both = then-both (f a b) (lexical f k l) h in
      rw (t.alike a b c both.0, lexical-alike k l m both.1)

  lexical-after : (k l m : List A) → lexical f k l ≡ Ordering.gt → lexical f l m ≡ Ordering.gt → lexical f k m ≡ Ordering.gt
  unfolding lexical
  lexical-after [] [] m p q = absurd cc
  lexical-after [] (b ∷ l) m p q = absurd cc
  lexical-after (a ∷ k) [] [] p q = absurd cc
  lexical-after (a ∷ k) [] (c ∷ m) p q = absurd cc
  lexical-after (a ∷ k) (b ∷ l) [] p q = refl
  lexical-after (a ∷ k) (b ∷ l) (c ∷ m) p q = then-after f t a b c (lexical f k l) (lexical f l m) (lexical f k m) (lexical-after k l m) p q

  lexical-total : Total (lexical f)
  lexical-total = record { swapped = lexical-swapped; alike = lexical-alike; after = lexical-after }

-- ---- by one key, then by another
module _ {A B C : Type 0} (f : A → A → Ordering) (g : B → B → Ordering) (p : C → A) (q : C → B) (t : Total f) (u : Total g) where
  abbrev by_both : C → C → Ordering
  by_both a b = and_then (f (p a) (p b)) (g (q a) (q b))

  both-alike : (a b c : C) → by_both a b ≡ Ordering.eq → by_both a c ≡ by_both b c
  both-alike a b c h =
      let both = then-both (f (p a) (p b)) (g (q a) (q b)) h in
      rw (t.alike (p a) (p b) (p c) both.0, u.alike (q a) (q b) (q c) both.1)

  both-total : Total by_both
  both-total =
      record {
        swapped = λ a b. rw (t.swapped (p a) (p b), u.swapped (q a) (q b)) (then-swap (f (p a) (p b)) (g (q a) (q b)));
        alike = both-alike;
        after = λ a b c x y. then-after f t (p a) (p b) (p c) (g (q a) (q b)) (g (q b) (q c)) (g (q a) (q c)) (u.after (q a) (q b) (q c)) x y;
      }

-- ---- numbers
compare-swapped : (a b : ℕ) → compare b a ≡ swap (compare a b)
compare-swapped zero zero = rw compare.zero-zero
compare-swapped zero (suc b) = rw (compare.zero-suc b, compare.suc-zero b)
compare-swapped (suc a) zero = rw (compare.zero-suc a, compare.suc-zero a)
compare-swapped (suc a) (suc b) = rw (compare.suc-suc a b, compare.suc-suc b a) (compare-swapped a b)

compare-total : Total compare
compare-total =
    record {
      swapped = compare-swapped;
      alike = λ a b c h. rw (compare-eq a b h);
      after = λ a b c h k. compare-more a c (omega (arith, compare-gt a b h, compare-gt b c k));
    }

-- ---- tests
test-swapped : (a b : Test) → test_order b a ≡ swap (test_order a b)
test-swapped Test.On Test.On = refl
test-swapped Test.On Test.Not = refl
test-swapped Test.Not Test.On = refl
test-swapped Test.Not Test.Not = refl

test-alike : (a b c : Test) → test_order a b ≡ Ordering.eq → test_order a c ≡ test_order b c
test-alike Test.On Test.On c h = refl
test-alike Test.On Test.Not c h = absurd cc
test-alike Test.Not Test.On c h = absurd cc
test-alike Test.Not Test.Not c h = refl

test-after : (a b c : Test) → test_order a b ≡ Ordering.gt → test_order b c ≡ Ordering.gt → test_order a c ≡ Ordering.gt
test-after Test.On Test.On c p q = absurd cc
test-after Test.On Test.Not c p q = absurd cc
test-after Test.Not Test.On Test.On p q = absurd cc
test-after Test.Not Test.On Test.Not p q = absurd cc
test-after Test.Not Test.Not c p q = absurd cc

test-total : Total test_order
test-total = record { swapped = test-swapped; alike = test-alike; after = test-after }

-- ---- chains
module _ (letters : ℕ → Letters) where
  conditions-total : Total (lexical (condition_order letters))
  conditions-total =
      lexical-total (condition_order letters) (both-total (lexical compare) test_order (λ (k : Condition). letters k.name) (λ (k : Condition). k.test) (lexical-total compare compare-total) test-total)

  pub chain-total : Total (chain_order letters)
  unfolding chain_order
  chain-total =
      record {
        swapped = λ a b. conditions-total.swapped (conditions a) (conditions b);
        alike = λ a b c. conditions-total.alike (conditions a) (conditions b) (conditions c);
        after = λ a b c. conditions-total.after (conditions a) (conditions b) (conditions c);
      }

  -- ---- clocks that stand each after those before it
  is_gt : (o : Ordering) → is_after o ≡ true → o ≡ Ordering.gt
  is_gt Ordering.lt e = absurd cc
  is_gt Ordering.eq e = absurd cc
  is_gt Ordering.gt e = refl

  after-all : (c d : Clock) (ds : List Clock) → chain_order letters d c ≡ Ordering.gt → Before letters d ds → Before letters c ds
  unfolding Before
  after-all c d [] h a = tt
  after-all c d (e ∷ es) h (p, a) = (ap is_after (chain-total.after e d c (is_gt (chain_order letters e d) p) h), after-all c d es h a)

  after-insert : (b c : Clock) (ds : List Clock) → chain_order letters c b ≡ Ordering.gt → Before letters b ds → Before letters b (insert letters c ds)
  unfolding Before insert
  after-insert b c [] h a = (ap is_after h, tt)
  after-insert b c (d ∷ ds) h (p, a) = go (chain_order letters c d) (after-insert b c ds h a)
    where
      go : (o : Ordering) → Before letters b (insert letters c ds) → Before letters b (elim o [ Ordering.lt ↦ c ∷ d ∷ ds | Ordering.eq ↦ d ∷ ds | Ordering.gt ↦ d ∷ insert letters c ds ])
      go Ordering.lt r = (ap is_after h, (p, a))
      go Ordering.eq r = (p, a)
      go Ordering.gt r = (p, r)

  pub rising-insert : (c : Clock) (ds : List Clock) → Rising letters ds → Rising letters (insert letters c ds)
  unfolding Rising Before insert
  rising-insert c [] r = (tt, tt)
  rising-insert c (d ∷ ds) (a, r) = go (chain_order letters c d) refl (rising-insert c ds r)
    where
      go : (o : Ordering) → chain_order letters c d ≡ o → Rising letters (insert letters c ds) → Rising letters (elim o [ Ordering.lt ↦ c ∷ d ∷ ds | Ordering.eq ↦ d ∷ ds | Ordering.gt ↦ d ∷ insert letters c ds ])
      go Ordering.lt q s = let e : chain_order letters d c ≡ Ordering.gt = chain-total.swapped c d ∙ rw q in ((ap is_after e, after-all c d ds e a), (a, r))
      go Ordering.eq q s = (a, r)
      go Ordering.gt q s = (after-insert d c ds q a, s)

  module _ (rows o : List ℕ) where
    after-at : (c : Clock) (s n : ℕ) → Before letters c (picked (row_of rows) o s n) → (j : ℕ) → j < n → chain_order letters (row_of rows (get_or o (s + j) 0)) c ≡ Ordering.gt
    unfolding Before picked
    after-at c s zero a j l = absurd (omega arith)
    after-at c s (suc n) (p, a) zero l = let e : s + 0 ≡ s = omega arith in rw e (is_gt (chain_order letters (row_of rows (get_or o s 0)) c) p)
    after-at c s (suc n) (p, a) (suc j) l = let e : s + suc j ≡ s + 1 + j = omega arith in rw e (after-at c (s + 1) n a j (omega arith))

    pub rising-at : (s n : ℕ) → Rising letters (picked (row_of rows) o s n) → (i j : ℕ) → i < j → j < n → chain_order letters (row_of rows (get_or o (s + j) 0)) (row_of rows (get_or o (s + i) 0)) ≡ Ordering.gt
    unfolding Rising picked
    rising-at s zero r i j l m = absurd (omega arith)
    rising-at s (suc n) r i zero l m = absurd (omega arith)
    rising-at s (suc n) (a, r) zero (suc j) l m =
        let e : s + suc j ≡ s + 1 + j = omega arith in
        let z : s + 0 ≡ s = omega arith in
        rw (e, z) (after-at (row_of rows (get_or o s 0)) (s + 1) n a j (omega arith))
    rising-at s (suc n) (a, r) (suc i) (suc j) l m =
        let e : s + suc j ≡ s + 1 + j = omega arith in
        let z : s + suc i ≡ s + 1 + i = omega arith in
        rw (e, z) (rising-at (s + 1) n r i j (omega arith) (omega arith))
