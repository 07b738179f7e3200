-- `chain_order::sorted_rows::SortedRows::insert` meets its contract. Assumes nothing.
use mathlib.Core.Path.{refl}
use native.Mathlib.Omega.{arith}
use Rattle.spelling.specs.Places.{letters_in}
use Rattle.chain_order.specs.Order.{row_of}
use Rattle.chain_order.proofs.Laws.{below-shifted, sought-within, inserted, stays}
use Rattle.chain_order.proofs.Total.{rising-insert}
use Rattle.chain_order.proofs.sorted_rows.SortedRows.insert.Goals as goal

pub shift-requires-clause-j_le_k : goal.shift-requires-clause-j_le_k
shift-requires-clause-j_le_k c =
    let s = c.args.self.now in
    sought-within (letters_in s.named.spelling) s.named.rows.now s.order.now s.count (row_of s.named.rows.now c.args.x) _ (rw c.in-Err.is at c.seek.ensures)

pub invariant_of-self : goal.invariant_of-self
invariant_of-self c =
    let s = c.args.self.now in
    let clock = row_of s.named.rows.now c.args.x in
    record {
      within = omega (arith, c.requires, c.shift.ensures.same_length);
      sorted =
          rw (inserted (letters_in s.named.spelling) s.named.rows.now s.order.now s.count c.args.x clock refl _ _ (rw c.in-Err.is at c.seek.ensures) c.shift.ensures)
          (rising-insert (letters_in s.named.spelling) clock _ s.sorted);
    }

pub returns-in_default : goal.returns-in_default
returns-in_default c =
    let s = c.args.self.now in
    record {
      named = refl;
      same = refl;
      same_length = refl;
      most = omega arith;
      inserted = stays (letters_in s.named.spelling) s.named.rows.now s.order.now s.count c.args.x (row_of s.named.rows.now c.args.x) refl _ (rw c.in_default.is at c.seek.ensures);
      below = λ m u b. b;
    }

pub returns : goal.returns
returns c =
    let s = c.args.self.now in
    let clock = row_of s.named.rows.now c.args.x in
    let sought = rw c.in-Err.is at c.seek.ensures in
    record {
      named = refl;
      same = refl;
      same_length = c.shift.ensures.same_length;
      most = omega arith;
      inserted = inserted (letters_in s.named.spelling) s.named.rows.now s.order.now s.count c.args.x clock refl _ _ sought c.shift.ensures;
      below = λ m u b. below-shifted s.order.now _ _ s.count c.args.x m c.shift.ensures u b (sought-within (letters_in s.named.spelling) s.named.rows.now s.order.now s.count clock _ sought);
    }
