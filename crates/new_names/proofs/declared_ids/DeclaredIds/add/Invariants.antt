-- `new_names::declared_ids::DeclaredIds::add` meets its contract: the names so far, and the declarations left. Assumes nothing.
use mathlib.Core.List.{List}
use Prim.Native.Nat.{◌+◌, ◌≤◌}
use lib.ListN.{length}
use Rattle.grammar.specs.Read.{tokens_of}
use Rattle.definitions.specs.Tree.{Declared}
use Rattle.definitions.specs.Grammar.{declaration}
use Rattle.layout.specs.Spans.{Spans}
use Rattle.layout.specs.Walk.{declared_left}
use Rattle.new_names.proofs.Ids.{Putting}
use Rattle.new_names.proofs.declared_ids.DeclaredIds.add.Given as goal

abbrev pub invariant-loop-declared : goal.invariant-loop-declared
invariant-loop-declared l =
    (ds : List Declared) → Spans (declaration l.source.names) (tokens_of l.source) ds l.fn.s → l.initial.self.count + length ds ≤ 128
    → Putting l.source.names (tokens_of l.source) l.initial.self.ids l.self.ids l.initial.self.count l.self.count ds (declared_left l.declared-iterator)
