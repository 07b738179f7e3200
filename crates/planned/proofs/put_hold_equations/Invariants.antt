-- `planned::put_hold_equations` meets its contract: one after another.
-- Assumes nothing.
use mathlib.Core.Path.{◌≡◌}
use mathlib.Core.List.{List}
use Prim.Native.Nat.{ℕ}
use lib.ListN.{length, get_or}
use Rattle.definitions.specs.Declock.{Hold}
use Rattle.stateless.specs.Yield.{Ids}
use Rattle.emit.specs.Out.{emits}
use Rattle.planned.specs.Writes.{Writer}
use Rattle.planned.specs.Opening.{WriterStands}
use Rattle.planned.specs.Held.{HeldFrom}
use Rattle.planned.specs.Shown.{hold_equations}
use Rattle.planned.proofs.HoldsLaws.{Left}
use Rattle.planned.proofs.put_hold_equations.Given as goal

abbrev pub invariant-loop-j : goal.invariant-loop-j
invariant-loop-j l =
    (W : Writer) (hs : List Hold) (ids : Ids) → length hs ≡ length l.written.holds.now → WriterStands l.written W → HeldFrom l.written.index.now.source.names l.written.index.now.source.tags.now l.written.index.now.source.values.now W l.written.plan.now l.written.holds.now 0 hs → ((j : ℕ) → ids.hold j ≡ get_or l.written.ids.holds.now j 0) → Left l.written.index.now.source.names l.written.index.now.source.tags.now l.written.index.now.source.values.now W l.written.plan.now l.written.holds.now (hold_equations ids) (emits l.initial.output (hold_equations ids 0 hs)) l.output (length l.written.holds.now) l.j
