-- Laws of the order of chains, and of rows put into it.
-- Assumes nothing.
use mathlib.Core.Path.{◌≡◌, refl, sym, ◌∙◌, ap}
use mathlib.Core.List.{List, [], ◌∷◌, ◌++◌, map, append_assoc}
use mathlib.Core.Bool.{Bool, true, false}
use Prim.Native.Nat.compare
use Prim.Native.Nat.{ℕ, zero, suc, ◌+◌, ◌-◌, ◌*◌, ◌≤◌, ◌<◌, compare, Ordering}
use native.Mathlib.Omega.{arith}
use native.Mathlib.Numerals.{add-one, sub-one}
use lib.ListN.{length, get_or, take, drop}
use lib.Seq.{drop-cons}
use lib.Dec.{eqb, ltb}
use borrow.Author.Tests.{eqb-true, eqb-false, ltb-true, ltb-false}
use Rattle.definitions.specs.declared.Condition.{Condition}
use Rattle.definitions.specs.declared.Test.{Test}
use Rattle.definitions.specs.contracts.TestOrd.TheImpl as derived
use Rattle.definitions.specs.Lists.{Letters}
use Rattle.definitions.specs.Clock.{Clock, conditions, and_then, lexical, condition_order, test_order, chain_order, insert, in_chain_order}
use Rattle.clock_tables.specs.Value.{at, clock_at}
use Rattle.clock_tables.specs.Flat.{condition_at, conditions_from}
use Rattle.clock_tables.proofs.FlatLaws.{at_from}
use Rattle.clock_tables.specs.Rows.{clocks_from}
use Rattle.clock_tables.proofs.RowsLaws.{from-none, from_more}
use Rattle.std.proofs.Common.{nat_cmp, Ok, Err, min}
use Rattle.std.specs.declared.cmp.Ordering as cmp
use Rattle.std.specs.declared.cmp.Ordering.TheVariants.{Less, Equal, Greater}
use Rattle.std.specs.Cmp.{nat_cmp_is}
use Rattle.std.specs.Ordering.{is_ne, ordering_then}
use Rattle.std.specs.Cmp.Lexicographic.{slice_cmp}
use Rattle.chain_order.specs.Order.{answer_of, row_of, picked, FirstBelow, Shifted, Sought}

-- ---- numbers
pub compare-less : (a b : ℕ) → a < b → compare a b ≡ Ordering.lt
compare-less zero zero h = absurd (omega arith)
compare-less zero (suc b) h = compare.zero-suc b
compare-less (suc a) zero h = absurd (omega arith)
compare-less (suc a) (suc b) h = compare.suc-suc a b ∙ compare-less a b (omega arith)

pub compare-more : (a b : ℕ) → b < a → compare a b ≡ Ordering.gt
compare-more zero zero h = absurd (omega arith)
compare-more zero (suc b) h = absurd (omega arith)
compare-more (suc a) zero h = compare.suc-zero a
compare-more (suc a) (suc b) h = compare.suc-suc a b ∙ compare-more a b (omega arith)

pub compare_same : (a b : ℕ) → b ≤ a → a ≤ b → compare a b ≡ Ordering.eq
compare_same zero zero h l = compare.zero-zero
compare_same zero (suc b) h l = absurd (omega arith)
compare_same (suc a) zero h l = absurd (omega arith)
compare_same (suc a) (suc b) h l = compare.suc-suc a b ∙ compare_same a b (omega arith) (omega arith)

-- std's order of numbers and of letters
pub numbers-cmp : (a b : ℕ) → nat_cmp a b ≡ answer_of (compare a b)
numbers-cmp a b = go (ltb a b) refl (ltb b a) refl
  where
    go : (t : Bool) → ltb a b ≡ t → (u : Bool) → ltb b a ≡ u → nat_cmp a b ≡ answer_of (compare a b)
    go true p u q = let l : a < b = ltb-true a b p in sym (nat_cmp_is a b Less l) ∙ ap answer_of (sym (compare-less a b l))
    go false p true q = let l : b < a = ltb-true b a q in sym (nat_cmp_is a b Greater l) ∙ ap answer_of (sym (compare-more a b l))
    go false p false q =
        let l : b ≤ a = ltb-false a b p in
        let m : a ≤ b = ltb-false b a q in
        let e : a ≡ b = omega arith in
        sym (nat_cmp_is a b Equal e) ∙ ap answer_of (sym (compare_same a b l m))

then-answer : (o p : Ordering) → ordering_then (answer_of o) (answer_of p) ≡ answer_of (and_then o p)
then-answer Ordering.lt p = refl
then-answer Ordering.eq p = refl
then-answer Ordering.gt p = refl

pub letters-cmp : (x y : Letters) → slice_cmp nat_cmp x y ≡ answer_of (lexical compare x y)
unfolding lexical
letters-cmp [] [] = refl
letters-cmp [] (b ∷ y) = refl
letters-cmp (a ∷ x) [] = refl
letters-cmp (a ∷ x) (b ∷ y) = rw (numbers-cmp a b, letters-cmp x y) (then-answer (compare a b) (lexical compare x y))

-- "on before not"
pub tests-cmp : (a b : Test) → derived.cmp-value.it a b ≡ answer_of (test_order a b)
tests-cmp Test.On Test.On = refl
tests-cmp Test.On Test.Not = refl
tests-cmp Test.Not Test.On = refl
tests-cmp Test.Not Test.Not = refl

-- names, and then tests
pub conditions-cmp : (letters : ℕ → Letters) (k l : Condition) {x y : Letters} {o p r : cmp.Ordering} → x ≡ letters k.name → y ≡ letters l.name → o ≡ slice_cmp nat_cmp x y
    → p ≡ answer_of (test_order k.test l.test) → r ≡ ordering_then o p → r ≡ answer_of (condition_order letters k l)
conditions-cmp letters k l {x} {y} a b e f g =
    g ∙ rw (e, f, a, b, letters-cmp (letters k.name) (letters l.name)) (then-answer (lexical compare (letters k.name) (letters l.name)) (test_order k.test l.test))

letters-same : (x : Letters) → lexical compare x x ≡ Ordering.eq
unfolding lexical
letters-same [] = refl
letters-same (a ∷ x) = rw (compare_same a a (omega arith) (omega arith)) (letters-same x)

-- one name: the tests alone
pub conditions-alike : (letters : ℕ → Letters) (k l : Condition) {p : cmp.Ordering} → k.name ≡ l.name → p ≡ answer_of (test_order k.test l.test) → p ≡ answer_of (condition_order letters k l)
conditions-alike letters k l e f = f ∙ rw (e, letters-same (letters l.name)) refl

-- an answer is `Equal` where the orders are
pub answer-eq : (o : Ordering) {r : cmp.Ordering} {t : Bool} → r ≡ answer_of o → t ≡ is_ne r → t ≡ false → o ≡ Ordering.eq
answer-eq Ordering.lt e f g = absurd cc
answer-eq Ordering.eq e f g = refl
answer-eq Ordering.gt e f g = absurd cc

-- the first order decides where it does not say same
then-other : (o p : Ordering) {r : cmp.Ordering} {t : Bool} → r ≡ answer_of o → t ≡ is_ne r → t ≡ true → and_then o p ≡ o
then-other Ordering.lt p e f g = refl
then-other Ordering.eq p e f g = absurd cc
then-other Ordering.gt p e f g = refl

-- ---- conditions
-- n conditions, from i on
unfoldable pub firsts : List Condition → ℕ → ℕ → List Condition
firsts ks i zero = []
firsts ks i (suc n) = at ks i ∷ firsts ks (i + 1) n

firsts-none : (ks : List Condition) (i n : ℕ) → n ≡ 0 → firsts ks i n ≡ []
unfolding firsts
firsts-none ks i n z = rw z

firsts_more : (ks : List Condition) (i n : ℕ) → 0 < n → firsts ks i n ≡ at ks i ∷ firsts ks (i + 1) (n - 1)
unfolding firsts
firsts_more ks i zero z = absurd (omega arith)
firsts_more ks i (suc n) z = rw (sub-one (suc n))

firsts-last : (ks : List Condition) (i n : ℕ) → firsts ks i (suc n) ≡ firsts ks i n ++ (at ks (i + n) ∷ [])
unfolding firsts
firsts-last ks i zero = let e : i + 0 ≡ i = omega arith in rw e
firsts-last ks i (suc n) =
    let e : i + suc n ≡ i + 1 + n = omega arith in
    rw e (ap (λ (l : List Condition). at ks i ∷ l) (firsts-last ks (i + 1) n))

conditions-firsts : (ks : List Condition) (d : ℕ) → conditions (clock_at ks d) ≡ firsts ks 0 d
unfolding conditions clock_at firsts
conditions-firsts ks zero = refl
conditions-firsts ks (suc d) =
    let e : 0 + d ≡ d = omega arith in
    rw (conditions-firsts ks d) (sym (firsts-last ks 0 d ∙ rw e))

module _ (letters : ℕ → Letters) (ks ls : List Condition) (d e : ℕ) where
  -- the conditions from i on decide
  abbrev pub Decides : ℕ → Type 0
  Decides i = chain_order letters (clock_at ks d) (clock_at ls e) ≡ lexical (condition_order letters) (firsts ks i (d - i)) (firsts ls i (e - i))

  pub decides-all : Decides 0
  unfolding chain_order
  decides-all =
      let p : d - 0 ≡ d = omega arith in
      let q : e - 0 ≡ e = omega arith in
      rw (p, q, conditions-firsts ks d, conditions-firsts ls e)

  module _ (i : ℕ) (h : Decides i) where
    pub chain-end : d ≤ i → e ≤ i → chain_order letters (clock_at ks d) (clock_at ls e) ≡ Ordering.eq
    unfolding lexical
    chain-end p q =
        let y : d - i ≡ 0 = omega arith in
        let z : e - i ≡ 0 = omega arith in
        h ∙ rw (firsts-none ks i (d - i) y, firsts-none ls i (e - i) z)

    pub chain-less : d ≤ i → i < e → chain_order letters (clock_at ks d) (clock_at ls e) ≡ Ordering.lt
    unfolding lexical
    chain-less p q =
        let y : d - i ≡ 0 = omega arith in
        let z : 0 < e - i = omega arith in
        h ∙ rw (firsts-none ks i (d - i) y, firsts_more ls i (e - i) z)

    module _ (p : i < d) where
      pub chain_more : e ≤ i → chain_order letters (clock_at ks d) (clock_at ls e) ≡ Ordering.gt
      unfolding lexical
      chain_more q =
          let y : 0 < d - i = omega arith in
          let z : e - i ≡ 0 = omega arith in
          h ∙ rw (firsts_more ks i (d - i) y, firsts-none ls i (e - i) z)

      module _ (q : i < e) where
        chain-step : chain_order letters (clock_at ks d) (clock_at ls e) ≡ and_then (condition_order letters (at ks i) (at ls i)) (lexical (condition_order letters) (firsts ks (i + 1) (d - (i + 1))) (firsts ls (i + 1) (e - (i + 1))))
        unfolding lexical
        chain-step =
            let y : 0 < d - i = omega arith in
            let z : 0 < e - i = omega arith in
            let m : d - i - 1 ≡ d - (i + 1) = omega arith in
            let n : e - i - 1 ≡ e - (i + 1) = omega arith in
            h ∙ rw (firsts_more ks i (d - i) y, firsts_more ls i (e - i) z, m, n)

        module _ {r : cmp.Ordering} {t : Bool} (f : r ≡ answer_of (condition_order letters (at ks i) (at ls i))) (g : t ≡ is_ne r) where
          pub chain_same : t ≡ false → Decides (i + 1)
          chain_same u = let v : condition_order letters (at ks i) (at ls i) ≡ Ordering.eq = answer-eq (condition_order letters (at ks i) (at ls i)) f g u in chain-step ∙ rw v

          pub chain-other : t ≡ true → r ≡ answer_of (chain_order letters (clock_at ks d) (clock_at ls e))
          chain-other u = f ∙ ap answer_of (sym (chain-step ∙ then-other (condition_order letters (at ks i) (at ls i)) _ f g u))

    -- all conditions of one are passed: the depths decide
    pub chain-depths : i ≡ min d e → nat_cmp d e ≡ answer_of (chain_order letters (clock_at ks d) (clock_at ls e))
    chain-depths f = go (ltb d e) refl (ltb e d) refl
      where
        go : (t : Bool) → ltb d e ≡ t → (u : Bool) → ltb e d ≡ u → nat_cmp d e ≡ answer_of (chain_order letters (clock_at ks d) (clock_at ls e))
        go true p u q = let l : d < e = ltb-true d e p in sym (nat_cmp_is d e Less l) ∙ ap answer_of (sym (chain-less (omega arith) (omega arith)))
        go false p true q = let l : e < d = ltb-true e d q in sym (nat_cmp_is d e Greater l) ∙ ap answer_of (sym (chain_more (omega arith) (omega arith)))
        go false p false q =
            let l : e ≤ d = ltb-false d e p in
            let m : d ≤ e = ltb-false e d q in
            let n : d ≡ e = omega arith in
            sym (nat_cmp_is d e Equal n) ∙ ap answer_of (sym (chain-end (omega arith) (omega arith)))

-- the condition in a row of a table
pub row-condition : (rows : List ℕ) (a x i : ℕ) (k : Condition) → a ≡ 17 * x → i < 8 → k ≡ condition_at rows (a + 1 + 2 * i) → k ≡ at (conditions_from rows (17 * x + 1) 8) i
row-condition rows a x i k e l h = h ∙ rw e (sym (at_from rows (17 * x + 1) 8 i l))

pub conditions-both : (letters : ℕ → Letters) {r : cmp.Ordering} (k l k' l' : Condition) → r ≡ answer_of (condition_order letters k l) → k ≡ k' → l ≡ l' → r ≡ answer_of (condition_order letters k' l')
conditions-both letters k l k' l' h p q = h ∙ rw (p, q)

-- ---- words of a list
module _ (f : ℕ → Clock) where
  picked_none : (o : List ℕ) (i n : ℕ) → n ≡ 0 → picked f o i n ≡ []
  unfolding picked
  picked_none o i n z = rw z

  picked_more : (o : List ℕ) (i n : ℕ) → 0 < n → picked f o i n ≡ f (get_or o i 0) ∷ picked f o (i + 1) (n - 1)
  unfolding picked
  picked_more o i zero z = absurd (omega arith)
  picked_more o i (suc n) z = rw (sub-one (suc n))

  picked_last : (o : List ℕ) (i n : ℕ) → picked f o i (suc n) ≡ picked f o i n ++ (f (get_or o (i + n) 0) ∷ [])
  unfolding picked
  picked_last o i zero = let e : i + 0 ≡ i = omega arith in rw e
  picked_last o i (suc n) =
      let e : i + suc n ≡ i + 1 + n = omega arith in
      rw e (ap (λ (l : List Clock). f (get_or o i 0) ∷ l) (picked_last o (i + 1) n))

  picked_same : (o o' : List ℕ) (i j n : ℕ) → ((m : ℕ) → m < n → get_or o' (j + m) 0 ≡ get_or o (i + m) 0) → picked f o' j n ≡ picked f o i n
  unfolding picked
  picked_same o o' i j zero h = refl
  picked_same o o' i j (suc n) h =
      let e : get_or o' j 0 ≡ get_or o i 0 = rw (right i, right j) at (h 0 (omega arith)) in
      rw (e, picked_same o o' (i + 1) (j + 1) n (λ m u. rw (next i m, next j m) at (h (suc m) (omega arith))))
    where
      right : (i : ℕ) → i + 0 ≡ i
      right i = omega arith

      next : (i m : ℕ) → i + suc m ≡ i + 1 + m
      next i m = omega arith

  picked-split : (o : List ℕ) (i m n : ℕ) → picked f o i (m + n) ≡ picked f o i m ++ picked f o (i + m) n
  unfolding picked
  picked-split o i zero n =
      let e : i + 0 ≡ i = omega arith in
      let z : 0 + n ≡ n = omega arith in
      rw (e, z)
  picked-split o i (suc m) n =
      let e : i + suc m ≡ i + 1 + m = omega arith in
      let z : suc m + n ≡ suc (m + n) = omega arith in
      rw (e, z) (ap (λ (l : List Clock). f (get_or o i 0) ∷ l) (picked-split o (i + 1) m n))

  -- those words as a list
  pub picked-taken : (o : List ℕ) (i n : ℕ) → i + n ≤ length o → picked f o i n ≡ map f (take n (drop i o))
  unfolding picked
  picked-taken o i zero h = refl
  picked-taken o i (suc n) h = rw (drop-cons o i 0 (omega arith), ← add-one i) (ap (λ (l : List Clock). f (get_or o i 0) ∷ l) (picked-taken o (i + 1) n (omega arith)))

-- ---- where a clock goes
module _ (letters : ℕ → Letters) (c d : Clock) (ds : List Clock) where
  insert-less : chain_order letters c d ≡ Ordering.lt → insert letters c (d ∷ ds) ≡ c ∷ d ∷ ds
  unfolding insert
  insert-less h = rw (h, insert)

  insert-same : chain_order letters c d ≡ Ordering.eq → insert letters c (d ∷ ds) ≡ d ∷ ds
  unfolding insert
  insert-same h = rw (h, insert)

  insert-more : chain_order letters c d ≡ Ordering.gt → insert letters c (d ∷ ds) ≡ d ∷ insert letters c ds
  unfolding insert
  insert-more h = rw (h, insert)

insert-none : (letters : ℕ → Letters) (c : Clock) → insert letters c [] ≡ c ∷ []
unfolding insert
insert-none letters c = refl

module _ (letters : ℕ → Letters) (rows o : List ℕ) (k : ℕ) (c : Clock) where
  -- the clock goes past the first j
  abbrev pub Gone : ℕ → Type 0
  Gone j = insert letters c (picked (row_of rows) o 0 k) ≡ picked (row_of rows) o 0 j ++ insert letters c (picked (row_of rows) o j (k - j))

  pub gone-none : Gone 0
  gone-none = let e : k - 0 ≡ k = omega arith in rw (e, picked_none (row_of rows) o 0 0 refl)

  module _ (j : ℕ) (h : Gone j) where
    pub sought-end : k ≤ j → j ≤ k → Sought letters rows o k c (Err k)
    unfolding Sought
    sought-end p q =
        let e : j ≡ k = omega arith in
        let z : k - j ≡ 0 = omega arith in
        let y : k - k ≡ 0 = omega arith in
        (omega arith, h ∙ rw (picked_none (row_of rows) o j (k - j) z, insert-none letters c, picked_none (row_of rows) o k (k - k) y, e))

    module _ (l : j < k) (d : Clock) (e : d ≡ row_of rows (get_or o j 0)) where
      tail : List Clock
      tail = picked (row_of rows) o (j + 1) (k - j - 1)

      head : picked (row_of rows) o j (k - j) ≡ d ∷ tail
      unfolding tail
      head = let z : 0 < k - j = omega arith in picked_more (row_of rows) o j (k - j) z ∙ rw e

      pub sought-less : chain_order letters c d ≡ Ordering.lt → Sought letters rows o k c (Err j)
      unfolding Sought
      sought-less v =
          (omega arith, h ∙ rw (head, insert-less letters c d tail v))

      pub sought-same : (i : ℕ) → chain_order letters c d ≡ Ordering.eq → Sought letters rows o k c (Ok i)
      unfolding Sought
      sought-same i v =
          let n : j + (k - j) ≡ k = omega arith in
          let m : 0 + j ≡ j = omega arith in
          let s : picked (row_of rows) o 0 k ≡ picked (row_of rows) o 0 j ++ picked (row_of rows) o j (k - j) = rw (n, m) at (picked-split (row_of rows) o 0 j (k - j)) in
          h ∙ (ap (λ (x : List Clock). picked (row_of rows) o 0 j ++ x) (ap (insert letters c) head ∙ (insert-same letters c d tail v ∙ sym head)) ∙ sym s)

      pub gone-more : chain_order letters c d ≡ Ordering.gt → Gone (j + 1)
      unfolding tail
      gone-more v =
          let m : 0 + j ≡ j = omega arith in
          let n : k - j - 1 ≡ k - (j + 1) = omega arith in
          let s : picked (row_of rows) o 0 (j + 1) ≡ picked (row_of rows) o 0 j ++ (d ∷ []) = rw (add-one j) (picked_last (row_of rows) o 0 j ∙ rw (m, e)) in
          h ∙ rw (head, insert-more letters c d tail v, s, append_assoc (picked (row_of rows) o 0 j) (d ∷ []), n)

-- ---- moving words
module _ (o t : List ℕ) (k i : ℕ) where
  -- the words up to i are as they were, and those from i on one place further
  abbrev pub Low : Type 0
  Low = (m : ℕ) → m ≤ i → get_or t m 0 ≡ get_or o m 0

  abbrev pub High : Type 0
  High = (m : ℕ) → i ≤ m → m < k → get_or t (m + 1) 0 ≡ get_or o m 0

pub below-shifted : (o o' : List ℕ) (j k x m : ℕ) → Shifted o o' j k x → x < m → FirstBelow o k m → j ≤ k → FirstBelow o' (k + 1) m
below-shifted o o' j k x m s l b w i u = go (ltb i j) refl (eqb i j) refl
  where
    go : (a : Bool) → ltb i j ≡ a → (c : Bool) → eqb i j ≡ c → get_or o' i 0 < m
    go true p c q = let e = s.before i (ltb-true i j p) in rw e (b i (omega (arith, ltb-true i j p)))
    go false p true q = let e : i ≡ j = eqb-true i j q in rw (e, s.here) l
    go false p false q =
        let n : j < i = omega (arith, ltb-false i j p, eqb-false i j q) in
        let d : i - 1 + 1 ≡ i = omega arith in
        let e : get_or o' i 0 ≡ get_or o (i - 1) 0 = rw d at (s.after (i - 1) (omega arith) (omega arith)) in
        rw e (b (i - 1) (omega arith))

-- ---- putting a row into its place
pub sought-within : (letters : ℕ → Letters) (rows o : List ℕ) (k : ℕ) (c : Clock) (j : ℕ) → Sought letters rows o k c (Err j) → j ≤ k
unfolding Sought
sought-within letters rows o k c j s = s.0

module _ (letters : ℕ → Letters) (rows o : List ℕ) (k x : ℕ) (c : Clock) (e : c ≡ row_of rows x) where
  pub inserted : (o' : List ℕ) (j : ℕ) → Sought letters rows o k c (Err j) → Shifted o o' j k x → picked (row_of rows) o' 0 (k + 1) ≡ insert letters (row_of rows x) (picked (row_of rows) o 0 k)
  unfolding Sought
  inserted o' j (l, h) s =
      let f = row_of rows in
      let n : k + 1 ≡ j + (k - j + 1) = omega arith in
      let z : 0 < k - j + 1 = omega arith in
      let y : k - j + 1 - 1 ≡ k - j = omega arith in
      let m : 0 + j ≡ j = omega arith in
      let a : picked f o' 0 j ≡ picked f o 0 j = picked_same f o o' 0 0 j (λ i u. s.before (0 + i) (omega arith)) in
      let b : picked f o' (j + 1) (k - j) ≡ picked f o j (k - j) = picked_same f o o' j (j + 1) (k - j) (λ i u. further i u) in
      ap (picked f o' 0) n ∙ (picked-split f o' 0 j (k - j + 1) ∙ rw (m, picked_more f o' j (k - j + 1) z, s.here, y, a, b, ← e) (sym h))
    where
      further : (i : ℕ) → i < k - j → get_or o' (j + 1 + i) 0 ≡ get_or o (j + i) 0
      further i u = let w : j + 1 + i ≡ j + i + 1 = omega arith in rw w (s.after (j + i) (omega arith) (omega arith))

  pub stays : (i : ℕ) → Sought letters rows o k c (Ok i) → picked (row_of rows) o 0 k ≡ insert letters (row_of rows x) (picked (row_of rows) o 0 k)
  unfolding Sought
  stays i h = sym (rw e at h)

-- ---- sorting
module _ (letters : ℕ → Letters) (rows : List ℕ) (n : ℕ) where
  pub sort-none : (o : List ℕ) → picked (row_of rows) o 0 0 ≡ in_chain_order letters (clocks_from rows n (n - n))
  unfolding in_chain_order picked
  sort-none o = let e : n - n ≡ 0 = omega arith in rw (from-none rows n (n - n) e)

  pub sort-more : (i : ℕ) → 0 < i → i ≤ n → in_chain_order letters (clocks_from rows (i - 1) (n - (i - 1))) ≡ insert letters (row_of rows (i - 1)) (in_chain_order letters (clocks_from rows i (n - i)))
  unfolding in_chain_order
  sort-more i z l =
      let a : 0 < n - (i - 1) = omega arith in
      let b : i - 1 + 1 ≡ i = omega arith in
      let d : n - (i - 1) - 1 ≡ n - i = omega arith in
      rw (from_more rows (i - 1) (n - (i - 1)) a, b, d)
