-- `planned::put_hold_declarations` meets its contract: one after another.
-- Assumes nothing.
use mathlib.Core.Path.{◌≡◌}
use mathlib.Core.List.{List}
use Prim.Native.Nat.{ℕ}
use lib.ListN.{length, get_or}
use Rattle.grammar.specs.Read.{tokens_of}
use Rattle.definitions.specs.Declock.{Hold, declared}
use Rattle.typing.specs.Found.{Declares}
use Rattle.stateless.specs.Yield.{Ids}
use Rattle.emit.specs.Out.{emits}
use Rattle.planned.specs.Writes.{Writer}
use Rattle.planned.specs.Held.{HeldFrom}
use Rattle.planned.specs.Shown.{hold_declarations}
use Rattle.planned.proofs.HoldsLaws.{Left}
use Rattle.planned.proofs.put_hold_declarations.Given as goal

abbrev pub invariant-loop-j : goal.invariant-loop-j
invariant-loop-j l =
    (W : Writer) (plan : List ℕ) (hs : List Hold) (ids : Ids) → length hs ≡ length l.written.holds.now → HeldFrom l.written.index.now.source.names l.written.index.now.source.tags.now l.written.index.now.source.values.now W plan l.written.holds.now 0 hs → Declares l.written.index.now.source.names (tokens_of l.written.index.now.source) l.written.types.now (declared W.node) → ((j : ℕ) → ids.hold j ≡ get_or l.written.ids.holds.now j 0) → Left l.written.index.now.source.names l.written.index.now.source.tags.now l.written.index.now.source.values.now W plan l.written.holds.now (hold_declarations ids) (emits l.initial.output (hold_declarations ids 0 hs)) l.output (length l.written.holds.now) l.j
