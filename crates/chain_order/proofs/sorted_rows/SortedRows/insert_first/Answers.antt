-- `chain_order::sorted_rows::SortedRows::insert_first` meets its contract: the rows from i on stand in chain order. Assumes nothing.
use Prim.Native.Nat.{◌-◌}
use mathlib.Core.Path.{◌≡◌, refl, sym, ap, ◌∙◌}
use native.Mathlib.Omega.{arith}
use Rattle.definitions.specs.Clock.{insert}
use Rattle.spelling.specs.Places.{letters_in}
use Rattle.chain_order.specs.Order.{row_of}
use Rattle.chain_order.proofs.Laws.{sort-none, sort-more}
use Rattle.chain_order.proofs.sorted_rows.SortedRows.insert_first.Goals as goal

pub loop-i-init : goal.loop-i-init
loop-i-init c =
    let s = c.args.self.now in
    (refl, refl, refl, omega (arith, c.requires.empty), rw c.requires.empty (sort-none (letters_in s.named.spelling) s.named.rows.now c.args.n s.order.now), λ i u. absurd (omega (arith, u, c.requires.empty)))

pub loop-i-preserved : goal.loop-i-preserved
loop-i-preserved c =
    let l = c.loop-i in
    let named = c.args.self.now.named in
    let s = c.insert.ensures in (
      s.named ∙ l.invariant.0,
      s.same ∙ l.invariant.1,
      s.same_length ∙ l.invariant.2,
      omega (arith, s.most, l.invariant.3, l.auto.i, c.loop-i-test.true),
      (rw l.invariant.0 at s.inserted) ∙ (ap (insert (letters_in named.spelling) (row_of named.rows.now (l.i - 1))) l.invariant.4 ∙ sym (sort-more (letters_in named.spelling) named.rows.now c.args.n l.i (omega (arith, c.loop-i-test.true)) (omega (arith, l.auto.i)))),
      s.below c.args.n (omega (arith, l.auto.i, c.loop-i-test.true)) l.invariant.5,
    )

pub returns : goal.returns
returns c =
    let l = c.loop-i in
    let z : l.i ≡ 0 = omega (arith, c.loop-i-test.false) in
    let n : c.args.n - 0 ≡ c.args.n = omega arith in
    record { same = l.invariant.1; same_length = l.invariant.2; most = omega (arith, l.invariant.3); all = rw (z, n) at l.invariant.4; below = l.invariant.5 }
