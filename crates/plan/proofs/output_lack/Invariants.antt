-- `plan::output_lack` meets its contract: one output after another.
-- Assumes nothing.
use mathlib.Core.List.{List}
use Prim.Native.Nat.{ℕ}
use Rattle.grammar.specs.Read.{tokens_of}
use Rattle.definitions.specs.Tree.{Declared, TypeDef, Node}
use Rattle.definitions.specs.Grammar.{declaration}
use Rattle.layout.specs.Spans.{Spans}
use Rattle.layout.specs.Walk.{declared_left}
use Rattle.index.specs.Indexed.{TypesIn}
use Rattle.stateless.specs.Faults.{outputs_fault}
use Rattle.plan.proofs.Sites.{LackLeft}
use Rattle.plan.proofs.output_lack.Given as goal

abbrev pub invariant-loop-declared : goal.invariant-loop-declared
invariant-loop-declared l =
    (ds : List Declared) (f : ℕ) (types : List TypeDef) (ns : List Node) (node : Node) → Spans (declaration l.index.source.names) (tokens_of l.index.source) ds l.fn.outputs → TypesIn l.index types → LackLeft types ns node f l.index.source.names (tokens_of l.index.source) (declared_left l.declared-iterator) (outputs_fault types ns node f ds)
