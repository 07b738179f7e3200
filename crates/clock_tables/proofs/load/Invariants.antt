use Prim.Native.Nat.{◌+◌}
use mathlib.Core.Path.{◌≡◌}
use lib.ListN.{length}
use Rattle.clock_tables.specs.Value.{clock_at}
use Rattle.clock_tables.specs.Flat.{conditions_from}
use Rattle.clock_tables.proofs.load.Given as goal

abbrev pub invariant-loop-i : goal.invariant-loop-i
invariant-loop-i l = (length l.conditions ≡ 8) × (clock_at l.conditions l.i ≡ clock_at (conditions_from l.t (l.b + 1) 8) l.i)
