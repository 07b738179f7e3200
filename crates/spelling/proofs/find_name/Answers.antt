-- `spelling::find_name` meets its contract. Assumes nothing.
use mathlib.Core.Path.{◌≡◌, ap}
use mathlib.Core.Logic.{inl}
use native.Mathlib.Omega.{arith}
use lib.ListN.{length}
use Prim.Native.Nat.{◌+◌}
use Rattle.parts.proofs.Walked.{to_give}
use Rattle.definitions.specs.Output.{id_of}
use Rattle.parts.proofs.Cuts.{cut-count}
use Rattle.spelling.proofs.Table.{id-first, id-later}
use Rattle.spelling.proofs.find_name.Goals as goal
use Rattle.spelling.proofs.find_name.Goals.{After-into_iter-i-iterator}

-- all names are left
all : (c : goal.After-into_iter-i-iterator) → c.into_iter-i-iterator.result.count + length (to_give c.into_iter-i-iterator.result) ≡ length c.args.names.lengths.now
all c =
    let e = c.enumerate-i-items.ensures in
    rw (c.into_iter-i-iterator.ensures.into_iter_gives, e.count, e.source) (omega (arith, cut-count c.args.names.lengths.now c.args.names.letters.now))

pub loop-i-init-derived : goal.loop-i-init-derived
loop-i-init-derived c = ((tt, tt, inl (omega (arith, all c, c.ranges.names.0))), tt)

pub loop-i-init : goal.loop-i-init
loop-i-init c =
    let e = c.enumerate-i-items.ensures in
    record { sought = rw (c.into_iter-i-iterator.ensures.into_iter_gives, e.count, e.source) (omega arith); counted = all c }

pub returns-then-eq-clause-value : goal.returns-then-eq-clause-value
returns-then-eq-clause-value c =
    let s = c.in-Some.ensures.steps in
    omega (arith, s.1, c.loop-i.invariant.sought, id-first c.args.name.now _ s.0 c.eq.ensures c.if-eq.true)

pub returns-then-eq-clause-in_bounds : goal.returns-then-eq-clause-in_bounds
returns-then-eq-clause-in_bounds c =
    let s = c.in-Some.ensures.steps in
    omega (arith, s.1, c.loop-i.invariant.counted, ap length s.0)

pub loop-i-preserved : goal.loop-i-preserved
loop-i-preserved c =
    let s = c.in-Some.ensures.steps in
    let f = id-later c.args.name.now _ s.0 c.eq.ensures c.if-eq.false in
    record {
      sought = omega (arith, s.1, s.2, c.loop-i.invariant.sought, f);
      counted = omega (arith, s.1, s.2, c.loop-i.invariant.counted, ap length s.0);
    }

pub returns-clause-value : goal.returns-clause-value
returns-clause-value c =
    let e = c.in-None.ensures.steps.0.0 in
    omega (arith, c.loop-i.invariant.sought, c.loop-i.invariant.counted, ap (λ l. id_of l c.args.name.now) e, ap length e)
