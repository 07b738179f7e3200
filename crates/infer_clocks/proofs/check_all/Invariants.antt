-- What is found so far, then the rest, is all.
use mathlib.Core.Path.{◌≡◌}
use mathlib.Core.List.{List}
use Prim.Native.Nat.{ℕ, ◌-◌, ◌*◌, ◌≤◌}
use lib.ListN.{length}
use Rattle.grammar.specs.Read.{tokens_of}
use Rattle.definitions.specs.Tree.{Equation, Node}
use Rattle.definitions.specs.Reading.{got, times}
use Rattle.definitions.specs.Grammar.{equation}
use Rattle.definitions.specs.InferClocks.{Clocks, Clocked, formed, clocked_by}
use Rattle.clock_tables.specs.Environment.{Agrees}
use Rattle.checking.specs.Walk.{ReadsNode, Stays}
use Rattle.infer_clocks.specs.Clocked.{found_from}
use Rattle.infer_clocks.proofs.Laws.{Going}
use Rattle.infer_clocks.proofs.Sites.{Siting}
use Rattle.infer_clocks.proofs.check_all.Given as goal

abbrev pub invariant-loop-equation : goal.invariant-loop-equation
invariant-loop-equation l =
    Stays l.initial.output l.output
    × ((node : Node) (clocks : Clocks) (es : List Equation) (q : ℕ) → ReadsNode l.input node clocks → times l.fn.equations.count (equation l.input.source.names) (tokens_of l.input.source) l.fn.equations.at ≡ got es q → l.initial.output.findings.now.count ≡ 0 → Going l.input.source node clocks l.output (l.fn.equations.count - l.equation) l.equation l.place q (found_from node clocks 0 es))
    × ((node : Node) (clocks : Clocks) (es : List Equation) (q : ℕ) (cs : List Clocked) → Agrees l.input.env.now l.input.source.names clocks → times l.fn.equations.count (equation l.input.source.names) (tokens_of l.input.source) l.fn.equations.at ≡ got es q → 17 * length l.input.source.tags.now ≤ length l.initial.output.sites.now → clocked_by clocks es ≡ formed cs → Siting l.input.source l.output.sites.now node clocks (l.fn.equations.count - l.equation) l.equation l.place l.fn.equations.at q cs)
