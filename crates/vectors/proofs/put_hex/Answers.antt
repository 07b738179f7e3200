use Rattle.vectors.proofs.Hex.{left-none, left-all, hex-step, hex-end}
use Rattle.vectors.proofs.put_hex.Goals as goal

pub loop-b-init : goal.loop-b-init
loop-b-init c = left-none

pub loop-b-preserved : goal.loop-b-preserved
loop-b-preserved c = hex-step _ _ c.loop-b.invariant c.loop-b-test.true c.hex_digit.ensures c.hex_digit-in-loop-b.ensures c.put.ensures c.put-in-loop-b.ensures

pub returns : goal.returns
returns c = left-all c.loop-b.invariant (hex-end _ _ c.loop-b-test.false)
