-- `plan::expr`, `both` and `exprs` meet their contracts: an expression by its first token, two expressions, parts one after another.
-- Assumes nothing.
use Rattle.std.specs.Prelude.{Result}
use Rattle.findings.specs.declared.Fault.{Fault}
use Rattle.plan.specs.Tables.{Tables, arrays_of, tables_of, StillLent}
use Rattle.plan.specs.Walks.{WalksAll}
use Prim.Native.Nat.{ℕ, ◌≤◌, ◌-◌, ◌*◌, ◌^◌, ◌+◌}
use Rattle.plan.proofs.+walk.Given as goal

abbrev pub decreases-both : goal.decreases-both
decreases-both l = 3 * (2 ^ 64 - l.at) + 1

abbrev pub decreases-expr : goal.decreases-expr
decreases-expr l = 3 * (2 ^ 64 - l.at)

abbrev pub decreases-exprs : goal.decreases-exprs
decreases-exprs l = 3 * (2 ^ 64 - l.at) + 2

abbrev pub invariant-exprs-loop-left : goal.invariant-exprs-loop-left
invariant-exprs-loop-left l =
    (l.at ≤ l.from) × StillLent l.initial.notes l.notes ×
    ((s'' : Tables) (r : Result ℕ Fault) → WalksAll (arrays_of l.planning) (tables_of l.notes) s'' l.left l.from r → WalksAll (arrays_of l.planning) (tables_of l.initial.notes) s'' l.many l.at r)

abbrev pub decreases-exprs-loop-left : goal.decreases-exprs-loop-left
decreases-exprs-loop-left l = 2 ^ 64 - l.from
