-- `spelling::TakenNames::fill_numbers` meets its contract: as many as are written are free below the next to be tried. Assumes nothing.
use native.Mathlib.Omega.{arith}
use Rattle.spelling.proofs.Free.{numbering_none, number-near, numbering_more, numbering-end}
use Rattle.spelling.proofs.TakenNames.fill_numbers.Goals as goal

pub loop-number-init : goal.loop-number-init
loop-number-init c = numbering_none

pub overflow_add-from : goal.overflow_add-from
overflow_add-from c =
    let l = c.loop-number in
    record { fits = omega (arith, number-near l.invariant c.next_free.ensures, c.requires, c.loop-number-test.true, l.auto.out) }

pub loop-number-preserved : goal.loop-number-preserved
loop-number-preserved c =
    let l = c.loop-number in
    numbering_more l.invariant c.next_free.ensures (omega (arith, c.loop-number-test.true, l.auto.out)) (omega (arith, c.requires, c.loop-number-test.true, l.auto.out))

pub returns : goal.returns
returns c =
    let l = c.loop-number in
    numbering-end l.invariant l.auto.out (omega (arith, c.loop-number-test.false, l.auto.out)) (omega (arith, l.auto.number-index-end, l.auto.out))
