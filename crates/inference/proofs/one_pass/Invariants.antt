-- `inference::one_pass` meets its contract: what is left to do makes the whole.
-- Assumes nothing.
use mathlib.Core.Path.{◌≡◌}
use Prim.Native.Nat.{ℕ, ◌-◌}
use mathlib.Core.List.{List}
use mathlib.Core.Bool.{false}
use Rattle.grammar.specs.Read.{tokens_of}
use Rattle.definitions.specs.Tree.{Equation, Node}
use Rattle.definitions.specs.Reading.{got, times}
use Rattle.definitions.specs.Grammar.{equation}
use Rattle.definitions.specs.InferClocks.{Clocks, ports, pass}
use Rattle.clock_tables.specs.Environment.{Agrees}
use Rattle.inference.specs.Passes.{Marked, Kept}
use Rattle.inference.specs.Settled.{Ended, Calms}
use Rattle.inference.proofs.PassesLaws.{Going}
use Rattle.inference.proofs.one_pass.Given as goal

abbrev pub invariant-loop-i : goal.invariant-loop-i
invariant-loop-i l =
    Kept l.initial.tables l.tables
    × ((n : Node) (es : List Equation) (q : ℕ) (clocks : Clocks) → Marked l.round.marks.now l.round.source.now.names (ports n) → Ended l.round.source.now.names (tokens_of l.round.source.now) l.fn.equations.at l.fn.equations.count l.ends → times l.fn.equations.count (equation l.round.source.now.names) (tokens_of l.round.source.now) l.fn.equations.at ≡ got es q → Agrees l.initial.tables.env.now l.round.source.now.names clocks → Calms n l.initial.tables.since.now (l.round.present - 1) clocks es → Going l.round n es l.fn.equations.at l.tables l.changed l.fn.equations.count l.i l.place q (pass n es (record { changed = false; clocks = clocks })))
