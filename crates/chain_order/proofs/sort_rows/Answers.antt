-- `chain_order::sort_rows` meets its contract. Assumes nothing.
use native.Mathlib.Omega.{arith}
use Rattle.chain_order.specs.Order.{picked, Rising}
use Rattle.chain_order.proofs.sort_rows.Goals as goal

pub invariant_of-sorted : goal.invariant_of-sorted
unfolding picked Rising
invariant_of-sorted c = record { within = omega arith; sorted = tt }
