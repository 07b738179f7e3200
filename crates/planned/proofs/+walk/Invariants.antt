-- `planned::expr` and `exprs` meet their contracts: a part by what becomes of its token, parts one after another.
-- Assumes nothing.
use mathlib.Core.List.{List}
use Rattle.definitions.specs.Tokens.{TagValue}
use Rattle.emit.specs.Out.{puts}
use Rattle.planned.specs.Writes.{Writer}
use Rattle.planned.specs.Opening.{WritesIn, WriterStands}
use Rattle.planned.proofs.Walk.{Left}
use Prim.Native.Nat.{ℕ, ◌≤◌, ◌-◌, ◌*◌, ◌^◌, ◌+◌}
use Rattle.planned.proofs.+walk.Given as goal

abbrev pub decreases-expr : goal.decreases-expr
decreases-expr l = 2 * (2 ^ 64 - l.at)

abbrev pub decreases-exprs : goal.decreases-exprs
decreases-exprs l = 2 * (2 ^ 64 - l.at) + 1

abbrev pub invariant-exprs-loop : goal.invariant-exprs-loop
invariant-exprs-loop s =
    (s.at ≤ s.from) × ((W : Writer) (q : ℕ) (l : List TagValue) → WriterStands s.written W → WritesIn s.written W s.at s.many q l → Left s.written W q (puts s.initial.output l) s.output s.from (s.many - s.counter))
