-- Where a clock goes among ordered rows, by halves.
-- Assumes nothing.
use mathlib.Core.Path.{◌≡◌, refl, sym, ◌∙◌, ap}
use mathlib.Core.List.{List}
use mathlib.Core.Bool.{Bool, true, false}
use Prim.Native.Nat.{ℕ, zero, suc, ◌+◌, ◌≤◌, ◌<◌, Ordering}
use native.Mathlib.Omega.{arith}
use native.Mathlib.Numerals.{add-one}
use lib.ListN.{get_or}
use lib.Dec.{eqb, ltb}
use borrow.Author.Tests.{eqb-true, eqb-false, ltb-true, ltb-false}
use Rattle.std.proofs.Common.{Ok, Err}
use Rattle.std.specs.declared.cmp.Ordering as cmp
use Rattle.std.specs.declared.cmp.Ordering.TheVariants.{Less, Equal, Greater}
use Rattle.definitions.specs.Lists.{Letters}
use Rattle.definitions.specs.Clock.{Clock, chain_order}
use Rattle.chain_order.specs.Order.{answer_of, row_of, InOrder, Sought}
use Rattle.chain_order.proofs.Laws.{Gone, gone-none, gone-more, sought-end, sought-less, sought-same}
use Rattle.chain_order.proofs.Total.{chain-total, swap, rising-at}

-- what an answer says
answered-less : (o : Ordering) → answer_of o ≡ Less → o ≡ Ordering.lt
answered-less Ordering.lt e = refl
answered-less Ordering.eq e = absurd cc
answered-less Ordering.gt e = absurd cc

answered-same : (o : Ordering) → answer_of o ≡ Equal → o ≡ Ordering.eq
answered-same Ordering.lt e = absurd cc
answered-same Ordering.eq e = refl
answered-same Ordering.gt e = absurd cc

answered-more : (o : Ordering) → answer_of o ≡ Greater → o ≡ Ordering.gt
answered-more Ordering.lt e = absurd cc
answered-more Ordering.eq e = absurd cc
answered-more Ordering.gt e = refl

module _ (letters : ℕ → Letters) (rows o : List ℕ) (k : ℕ) (c : Clock) where
  -- the clock against row i of the order
  abbrev against : ℕ → Ordering
  against i = chain_order letters c (row_of rows (get_or o i 0))

  -- the clock goes past the first `low` rows, and before row `high`
  pub record Between (low high : ℕ) : Type 0 where
    pub ends : low ≤ high
    pub within : high ≤ k
    pub past : (i : ℕ) → i < low → against i ≡ Ordering.gt
    pub under : high < k → against high ≡ Ordering.lt

  gone-past : (j : ℕ) → j ≤ k → ((i : ℕ) → i < j → against i ≡ Ordering.gt) → Gone letters rows o k c j
  gone-past zero l h = gone-none letters rows o k c
  gone-past (suc j) l h =
      let g : Gone letters rows o k c j = gone-past j (omega arith) (λ i u. h i (omega arith)) in
      rw (add-one j) at (gone-more letters rows o k c j g (omega arith) (row_of rows (get_or o j 0)) refl (h j (omega arith)))

module _ {letters : ℕ → Letters} {rows o : List ℕ} {k : ℕ} {c : Clock} {low high : ℕ} (b : Between letters rows o k c low high) where
  pub goes-here : high ≤ low → Sought letters rows o k c (Err low)
  goes-here l = go (ltb low k) refl
    where
      go : (t : Bool) → ltb low k ≡ t → Sought letters rows o k c (Err low)
      go true q =
          let e : high ≡ low = omega (arith, b.ends) in
          let m : low < k = ltb-true low k q in
          sought-less letters rows o k c low (gone-past letters rows o k c low (omega (arith, b.ends, b.within)) b.past) m (row_of rows (get_or o low 0)) refl (rw e at (b.under (omega arith)))
      go false q =
          let e : low ≡ k = omega (arith, b.ends, b.within, ltb-false low k q) in
          rw e (sought-end letters rows o k c low (gone-past letters rows o k c low (omega arith) b.past) (omega arith) (omega arith))

  module _ (s : InOrder letters rows o k) (mid : ℕ) (l : low ≤ mid) (m : mid < high) {r : cmp.Ordering} (q : r ≡ answer_of (chain_order letters (row_of rows (get_or o mid 0)) c)) where
    turned : {p : Ordering} → chain_order letters (row_of rows (get_or o mid 0)) c ≡ p → against letters rows o k c mid ≡ swap p
    turned e = (chain-total letters).swapped (row_of rows (get_or o mid 0)) c ∙ ap swap e

    apart : (i : ℕ) → i < mid → chain_order letters (row_of rows (get_or o mid 0)) (row_of rows (get_or o i 0)) ≡ Ordering.gt
    apart i n =
        let z : 0 + mid ≡ mid = omega arith in
        let y : 0 + i ≡ i = omega arith in
        rw (z, y) at (rising-at letters rows o 0 k s i mid n (omega (arith, b.within)))

    pub first-half : r ≡ Greater → Between letters rows o k c low mid
    first-half u =
        record {
          ends = l;
          within = omega (arith, b.within);
          past = b.past;
          under = λ n. turned (answered-more _ (sym q ∙ u));
        }

    past-mid : r ≡ Less → (i : ℕ) → i < mid + 1 → against letters rows o k c i ≡ Ordering.gt
    past-mid u i n = go (eqb i mid) refl
      where
        here : against letters rows o k c mid ≡ Ordering.gt
        here = turned (answered-less _ (sym q ∙ u))

        go : (t : Bool) → eqb i mid ≡ t → against letters rows o k c i ≡ Ordering.gt
        go true w = rw (eqb-true i mid w) here
        go false w = (chain-total letters).after c (row_of rows (get_or o mid 0)) (row_of rows (get_or o i 0)) here (apart i (omega (arith, eqb-false i mid w)))

    pub last-half : r ≡ Less → Between letters rows o k c (mid + 1) high
    last-half u =
        record {
          ends = omega arith;
          within = b.within;
          past = past-mid u;
          under = b.under;
        }

    pub is-there : r ≡ Equal → Sought letters rows o k c (Ok mid)
    is-there u =
        let e : against letters rows o k c mid ≡ Ordering.eq = turned (answered-same _ (sym q ∙ u)) in
        let p : (i : ℕ) → i < mid → against letters rows o k c i ≡ Ordering.gt = λ i n. (chain-total letters).alike c (row_of rows (get_or o mid 0)) (row_of rows (get_or o i 0)) e ∙ apart i n in
        sought-same letters rows o k c mid (gone-past letters rows o k c mid (omega (arith, b.within)) p) (omega (arith, b.within)) (row_of rows (get_or o mid 0)) refl mid e
