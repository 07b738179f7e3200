-- `spelling::fill_starts` meets its contract. The loop has written the first i starts. Assumes nothing.
use mathlib.Core.Path.{◌≡◌}
use lib.ListN.{length, take}
use Rattle.spelling.specs.Writing.{over_at}
use Rattle.parts.specs.Places.{start}
use Rattle.spelling.specs.Places.{starts_from}
use Rattle.spelling.proofs.fill_starts.Given as goal

abbrev pub invariant-loop-i : goal.invariant-loop-i
invariant-loop-i l =
    (l.at ≡ start l.lengths l.i) × (length l.starts ≡ length l.initial.starts) × (l.starts ≡ over_at 0 (take l.i (starts_from 0 l.lengths)) l.initial.starts)
