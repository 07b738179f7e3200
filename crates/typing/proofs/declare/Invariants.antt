-- `typing::declare` meets its contract: one declaration after another.
-- Assumes nothing.
use mathlib.Core.Path.{◌≡◌}
use mathlib.Core.List.{List, ◌++◌}
use Prim.Native.Nat.{◌≤◌, ◌<◌}
use lib.ListN.{length}
use Rattle.grammar.specs.Read.{tokens_of}
use Rattle.definitions.specs.Tree.{Declared}
use Rattle.definitions.specs.Grammar.{declaration}
use Rattle.layout.specs.Spans.{Spans}
use Rattle.layout.specs.Walk.{declared_left}
use Rattle.typing.specs.Found.{Declares}
use Rattle.typing.proofs.Laws.{Declaring}
use Rattle.typing.proofs.declare.Given as goal

abbrev pub invariant-loop-declared : goal.invariant-loop-declared
invariant-loop-declared l =
    (length l.types ≡ length l.initial.types) ×
    ((ds all : List Declared) → Spans (declaration l.source.names) (tokens_of l.source) ds l.fn.declarations → l.source.names ≤ length l.initial.types → length l.source.tags.now < 4294967295 → Declares l.source.names (tokens_of l.source) l.initial.types all →
    Declaring l.source.names (tokens_of l.source) (all ++ ds) (declared_left l.declared-iterator) l.types)
