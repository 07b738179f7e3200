-- `declock::put_first_equations` meets its contract: what the rows left say makes the whole. Assumes nothing.
use Rattle.chain_order.specs.Order.{row_of}
use Rattle.stateless.specs.Yield.{Ids}
use Rattle.emit.specs.Out.{emits}
use Rattle.declock.specs.Tabled.{FlagIds, ordered_clocks}
use Rattle.declock.proofs.FlagsLaws.{Left, first_equations}
use Rattle.declock.proofs.put_first_equations.Given as goal

abbrev pub invariant-loop-row : goal.invariant-loop-row
invariant-loop-row l = (j : Ids) → FlagIds l.firsts j.first → FlagIds l.flags j.flag → Left (row_of l.firsts.clocks.words.now) l.firsts.names.now.order (first_equations j) l.firsts.names.now.ordered (emits l.initial.output (first_equations j (ordered_clocks l.firsts))) l.output l.row-index
