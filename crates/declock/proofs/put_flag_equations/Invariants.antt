-- `declock::put_flag_equations` meets its contract: what the rows left say makes the whole. Assumes nothing.
use Rattle.chain_order.specs.Order.{row_of}
use Rattle.stateless.specs.Yield.{Ids}
use Rattle.emit.specs.Out.{emits}
use Rattle.declock.specs.Tabled.{FlagIds, ordered_clocks}
use Rattle.declock.proofs.FlagsLaws.{Left, flag_equations}
use Rattle.declock.proofs.put_flag_equations.Given as goal

abbrev pub invariant-loop-row : goal.invariant-loop-row
invariant-loop-row l = (j : Ids) → FlagIds l.flags j.flag → Left (row_of l.flags.clocks.words.now) l.flags.names.now.order (flag_equations j) l.flags.names.now.ordered (emits l.initial.output (flag_equations j (ordered_clocks l.flags))) l.output l.row-index
