-- `inference::give_names` meets its contract: what is left to do makes the whole. Assumes nothing.
use Prim.Native.Nat.{ℕ}
use mathlib.Core.Path.{◌≡◌}
use mathlib.Core.Bool.{Bool, ◌||◌}
use mathlib.Core.List.{List}
use lib.ListN.{drop}
use Rattle.grammar.specs.Read.{tokens_of}
use Rattle.definitions.specs.Tree.{Node}
use Rattle.definitions.specs.Reading.{got, times}
use Rattle.definitions.specs.Grammar.{name}
use Rattle.definitions.specs.InferClocks.{Pass, ports, give}
use Rattle.clock_tables.specs.Value.{value_of}
use Rattle.inference.specs.Passes.{Marked, PassSoFar, Kept}
use Rattle.inference.specs.Settled.{dates}
use Rattle.inference.proofs.PassesLaws.{Giving}
use Rattle.inference.proofs.give_names.Given as goal

abbrev pub invariant-loop-x : goal.invariant-loop-x
invariant-loop-x l =
    Kept l.initial.tables l.tables
    × ((n : Node) (p : Pass) (xs : List ℕ) (q : ℕ) (b : Bool) → Marked l.round.marks.now l.round.source.now.names (ports n) → times l.fn.left.count (name l.round.source.now.names) (tokens_of l.round.source.now) l.fn.left.at ≡ got xs q → PassSoFar l.initial.tables.env.now l.round.source.now.names b p → Giving l.round n (value_of l.c) l.tables (l.changed || b) (drop l.x-index l.names) (give n (value_of l.c) xs p) (dates n (value_of l.c) l.round.present xs p l.initial.tables.since.now))
