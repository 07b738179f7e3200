-- `declock::put_declarations` meets its contract: what the rows left say makes the whole. Assumes nothing.
use Prim.Native.Nat.{ℕ}
use Rattle.definitions.specs.Clock.{Clock}
use Rattle.chain_order.specs.Order.{row_of}
use Rattle.emit.specs.Out.{emits}
use Rattle.declock.specs.Tabled.{FlagIds, ordered_clocks}
use Rattle.declock.specs.Parts.{declarations}
use Rattle.declock.proofs.FlagsLaws.{Left}
use Rattle.declock.proofs.put_declarations.Given as goal

abbrev pub invariant-loop-row : goal.invariant-loop-row
invariant-loop-row l = (id : Clock → ℕ) → FlagIds l.flags id → Left (row_of l.flags.clocks.words.now) l.flags.names.now.order (declarations id) l.flags.names.now.ordered (emits l.initial.output (declarations id (ordered_clocks l.flags))) l.output l.row-index
