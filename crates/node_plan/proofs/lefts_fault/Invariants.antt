-- `node_plan::lefts_fault` meets its contract: one left name after another.
-- Assumes nothing.
use mathlib.Core.Path.{◌≡◌}
use mathlib.Core.List.{List}
use Prim.Native.Nat.{ℕ, ◌<◌}
use lib.ListN.{length, get_or, drop}
use Rattle.definitions.specs.Tree.{TypeDef, Node}
use Rattle.stateless.specs.Faults.{lefts_fault}
use Rattle.plan.specs.Tables.{arrays_of}
use Rattle.node_plan.specs.Noted.{Typed}
use Rattle.node_plan.proofs.lefts_fault.Given as goal

abbrev pub invariant-loop-x : goal.invariant-loop-x
invariant-loop-x l =
    (types : List TypeDef) (ns : List Node) (node : Node) → Typed (arrays_of l.planning) types node → ((i : ℕ) → i < length l.names → get_or l.names i 0 < l.planning.index.now.source.names) →
    lefts_fault types ns node l.names ≡ lefts_fault types ns node (drop l.x-index l.names)
