-- `node_plan::equations` meets its contract.
-- Assumes nothing.
use Prim.Native.Nat.{ℕ, ◌-◌}
use Rattle.std.specs.Prelude.{Result}
use Rattle.findings.specs.declared.Found.{Found}
use Rattle.plan.specs.Tables.{Tables, arrays_of, tables_of, StillLent}
use Rattle.node_plan.specs.Equations.{WalksEquations}
use Rattle.node_plan.proofs.equations.Given as goal

abbrev pub invariant-loop-i : goal.invariant-loop-i
invariant-loop-i l =
    StillLent l.initial.notes l.notes ×
    ((s'' : Tables) (r : Result ℕ Found) → WalksEquations (arrays_of l.planning) l.planning.index.now.condact (tables_of l.notes) s'' (l.fn.span.count - l.i-counter) l.place l.i-counter r → WalksEquations (arrays_of l.planning) l.planning.index.now.condact (tables_of l.initial.notes) s'' l.fn.span.count l.fn.span.at 0 r)
