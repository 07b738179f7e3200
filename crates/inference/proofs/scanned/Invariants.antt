-- `inference::scanned` meets its contract: what is owed from here ends where the expression does, and no token passed gives a clock.
-- Assumes nothing.
use Prim.Native.Nat.{◌+◌, ◌<◌}
use lib.ListN.{length}
use Rattle.inference.proofs.Scan.{Left}
use Rattle.inference.proofs.scanned.Given as goal

abbrev pub invariant-loop-tag : goal.invariant-loop-tag
invariant-loop-tag l =
    (0 < l.owed) × Left l.input.env.now l.input.source.tags.now l.input.source.values.now l.from l.owed (l.from + length l.yielded)
