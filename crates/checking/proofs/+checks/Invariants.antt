-- The walk: an expression by its first token, parts one after another; what is on the same clock is met in the loop.
use Rattle.clock_tables.specs.Value.{value_of}
use Rattle.checking.specs.Walk.{Stays}
use Rattle.checking.specs.declared.CheckOutput.{CheckOutput}
use Rattle.checking.proofs.Walk.{WalksAll}
use Prim.Native.Nat.{ℕ, ◌+◌, ◌-◌, ◌*◌, ◌^◌, ◌≤◌}
use Rattle.checking.proofs.+checks.Given as goal

abbrev pub decreases-check_branch : goal.decreases-check_branch
decreases-check_branch l = 5 * (2 ^ 64 - l.at) + 2

abbrev pub decreases-check_expr : goal.decreases-check_expr
decreases-check_expr l = 5 * (2 ^ 64 - l.at)

abbrev pub decreases-check_exprs : goal.decreases-check_exprs
decreases-check_exprs l = 5 * (2 ^ 64 - l.at) + 1

abbrev pub decreases-check_merge : goal.decreases-check_merge
decreases-check_merge l = 5 * (2 ^ 64 - l.at) + 3

abbrev pub decreases-check_over : goal.decreases-check_over
decreases-check_over l = 5 * (2 ^ 64 - l.at) + 1

abbrev pub decreases-check_sample : goal.decreases-check_sample
decreases-check_sample l = 5 * (2 ^ 64 - l.at) + 2

abbrev pub invariant-check_exprs-loop-left : goal.invariant-check_exprs-loop-left
invariant-check_exprs-loop-left l =
    (l.at ≤ l.from) × Stays l.initial.output l.output
    × ((out : CheckOutput) (r : ℕ) → WalksAll l.input l.output out (value_of l.on) l.left l.from r → WalksAll l.input l.initial.output out (value_of l.on) l.many l.at r)

abbrev pub decreases-check_exprs-loop-left : goal.decreases-check_exprs-loop-left
decreases-check_exprs-loop-left l = 2 ^ 64 - l.from
