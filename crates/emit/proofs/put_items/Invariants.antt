-- `emit::put_items` meets its contract: what is left to copy makes the whole of what is written so far, and where something was read,
-- the values are words. Assumes nothing.
use mathlib.Core.Path.{◌≡◌}
use Prim.Native.Nat.{◌-◌, ◌<◌}
use lib.ListN.{take, drop}
use Rattle.grammar.specs.Read.{tokens_of}
use Rattle.emit.specs.Out.{puts}
use Rattle.emit.specs.Copies.{Words}
use Rattle.emit.proofs.put_items.Given as goal

abbrev pub invariant-loop-i : goal.invariant-loop-i
invariant-loop-i l =
    (l.fn.s.at < l.i → Words (tokens_of l.source))
    × (puts l.initial.output (take (l.fn.s.end - l.fn.s.at) (drop l.fn.s.at (tokens_of l.source))) ≡ puts l.output (take (l.fn.s.end - l.i) (drop l.i (tokens_of l.source))))
