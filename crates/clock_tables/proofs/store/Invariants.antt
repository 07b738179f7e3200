use Prim.Native.Nat.{◌≤◌, ◌+◌}
use mathlib.Core.Path.{◌≡◌}
use lib.ListN.{length, get_or}
use Rattle.clock_tables.proofs.FlatLaws.{kept, Stored, Within}
use Rattle.clock_tables.proofs.store.Given as goal

abbrev pub invariant-loop-i : goal.invariant-loop-i
invariant-loop-i l =
    (l.b + 17 ≤ length l.t) × (get_or l.t l.b 0 ≡ length l.ks + 1) × Stored l.t (l.b + 1) (kept l.ks l.i) 8 × Within l.fn.t l.t l.b 17
