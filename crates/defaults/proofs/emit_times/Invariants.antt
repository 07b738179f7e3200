-- `defaults::emit_times` meets its contract: what is left to write makes the whole.
-- Assumes nothing.
use mathlib.Core.Path.{◌≡◌}
use Prim.Native.Nat.{◌-◌}
use Rattle.definitions.specs.Lists.{join}
use Rattle.definitions.specs.Tree.{Expr}
use Rattle.definitions.specs.Types.{copies}
use Rattle.definitions.specs.Output.{operand_tokens}
use Rattle.emit.specs.Out.{emits}
use Rattle.defaults.specs.Times.{Emits}
use Rattle.defaults.proofs.emit_times.Given as goal

abbrev pub invariant-loop : goal.invariant-loop
invariant-loop g l =
    (e : Expr) → Emits (goal.F-post g l.emit_one) e → emits l.initial.output (join (operand_tokens (copies l.m e))) ≡ emits l.output (join (operand_tokens (copies (l.m - l.counter) e)))
