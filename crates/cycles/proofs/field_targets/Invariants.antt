-- `cycles::field_targets` meets its contract: the names of the fields passed are there.
-- Assumes nothing.
use Rattle.std.specs.Prelude.{List}
use Rattle.grammar.specs.Read.{tokens_of}
use Rattle.definitions.specs.Tree.{Declared, TypeDef}
use Rattle.definitions.specs.Grammar.{declaration}
use Rattle.layout.specs.Spans.{Spans}
use Rattle.layout.specs.Walk.{declared_left}
use Rattle.cycles.specs.Defines.{NamesTypes}
use Rattle.cycles.proofs.Laws.{FieldsLeft}
use Rattle.cycles.proofs.field_targets.Given as goal

abbrev pub invariant-loop-field : goal.invariant-loop-field
invariant-loop-field l =
    let s = l.table.source in
    (types : List TypeDef) (fs : List Declared) → NamesTypes l.table types → Spans (declaration s.names) (tokens_of s) fs l.fn.fields → FieldsLeft types s.names (tokens_of s) l.targets fs (declared_left l.field-iterator)
