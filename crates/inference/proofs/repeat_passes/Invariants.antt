-- `inference::repeat_passes` meets its contract: the passes left, from the clocks so far, make the whole.
-- Assumes nothing.
use mathlib.Core.Path.{◌≡◌}
use Prim.Native.Nat.{ℕ, suc, ◌-◌}
use Rattle.grammar.specs.Read.{tokens_of}
use Rattle.definitions.specs.Tree.{Node}
use Rattle.definitions.specs.Reading.{got, times}
use Rattle.definitions.specs.Grammar.{equation}
use Rattle.definitions.specs.InferClocks.{Clocks, ports, passes_from}
use Rattle.clock_tables.specs.Environment.{Agrees}
use Rattle.inference.specs.Passes.{Marked, Kept}
use Rattle.inference.proofs.PassesLaws.{Repeating}
use Rattle.inference.proofs.repeat_passes.Given as goal

abbrev pub invariant-loop-made : goal.invariant-loop-made
invariant-loop-made l =
    Kept l.initial.tables l.tables
    × ((n : Node) (q : ℕ) (clocks : Clocks) → Marked l.marks l.source.names (ports n) → times l.fn.equations.count (equation l.source.names) (tokens_of l.source) l.fn.equations.at ≡ got n.equations q → Agrees l.initial.tables.env.now l.source.names clocks → Repeating l.source.names n l.tables (l.most - l.made) l.made (passes_from n (suc l.fn.equations.count) 0 clocks))
