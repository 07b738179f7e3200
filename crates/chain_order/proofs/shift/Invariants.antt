use Prim.Native.Nat.{◌≤◌}
use mathlib.Core.Path.{◌≡◌}
use lib.ListN.{length}
use Rattle.chain_order.proofs.Laws.{Low, High}
use Rattle.chain_order.proofs.shift.Given as goal

abbrev pub invariant-loop-i : goal.invariant-loop-i
invariant-loop-i l = (l.j ≤ l.i) × (length l.order ≡ length l.initial.order) × Low l.initial.order l.order l.k l.i × High l.initial.order l.order l.k l.i
