-- `lines::NamedText::put_chains` meets its contract: the lines so far. Assumes nothing.
use mathlib.Core.List.{map}
use lib.ListN.{take}
use Rattle.definitions.specs.Lists.{join}
use Rattle.chain_order.specs.Order.{row_of}
use Rattle.lines.specs.Pieces.{chain_line}
use Rattle.lines.specs.Spelled.{Spells}
use Rattle.lines.proofs.NamedText.put_chains.Given as goal

abbrev pub invariant-loop-row : goal.invariant-loop-row
invariant-loop-row l = Spells (λ n. join (map (chain_line n) (map (row_of l.ordered.rows.now) (take l.row-index l.row-items)))) l.fn.self l.self
