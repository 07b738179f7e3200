-- A start is at most 255 for each name before it.
use Rattle.std.proofs.Common.{◌*◌, ◌≤◌}
use Rattle.vectors.proofs.starts_of.Given as goal

abbrev pub invariant-loop-i : goal.invariant-loop-i
invariant-loop-i l = l.at ≤ 255 * l.i
