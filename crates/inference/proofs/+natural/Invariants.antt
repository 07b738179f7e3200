-- `inference::found_at` and its walk over operands meet their contracts. The measure is the tokens left.
-- Assumes nothing.
use mathlib.Core.Path.{◌≡◌}
use lib.ListN.{length}
use Rattle.grammar.specs.Read.{tokens_of}
use Rattle.definitions.specs.Tree.{Exprs}
use Rattle.definitions.specs.Reading.{got}
use Rattle.definitions.specs.InferClocks.{Clocks}
use Rattle.clock_tables.specs.Environment.{Agrees}
use Rattle.operands.specs.Spread.{tree, spread}
use Rattle.inference.specs.Natural.{first_of}
use Rattle.inference.proofs.NaturalLaws.{Remains}
use Prim.Native.Nat.{ℕ, ◌≤◌, ◌+◌, ◌-◌, ◌*◌}
use Rattle.inference.proofs.+natural.Given as goal

abbrev pub decreases-first_found : goal.decreases-first_found
decreases-first_found l = 3 * (length l.input.now.source.tags.now - l.operands.rest.next) + 2

abbrev pub decreases-found_at : goal.decreases-found_at
decreases-found_at l = 3 * (length l.input.now.source.tags.now - l.at)

abbrev pub decreases-operand_clock : goal.decreases-operand_clock
decreases-operand_clock l = 3 * (length l.input.now.source.tags.now - l.at) + 1

abbrev pub invariant-first_found-loop : goal.invariant-first_found-loop
invariant-first_found-loop l = (l.fn.operands.rest.next ≤ l.rest.next) × ((es : Exprs) (q : ℕ) (clocks : Clocks) → spread l.input.source.names l.initial.rest.gap l.fn.operands.count (tree l.input.source.names) (tokens_of l.input.source) l.initial.rest.next ≡ got es q → Agrees l.input.env.now l.input.source.names clocks → Remains l.input.source clocks l.up l.rest.gap (l.fn.operands.count - l.counter) l.rest.next q (first_of clocks l.up es))
