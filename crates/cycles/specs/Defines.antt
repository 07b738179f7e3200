-- What a sheet's type table defines.
use Rattle.std.specs.Prelude.{List}
use Rattle.grammar.specs.Read.{tokens_of}
use Rattle.definitions.specs.Tree.{TypeDef}
use Rattle.layout.specs.Table.{Table, Named}
use Rattle.cycles.specs.declared.TypeTable.{TypeTable}

-- the types' definitions stand where the table says
abbrev pub Defines : TypeTable → List TypeDef → Type 0
Defines t types = Table t.source.names (tokens_of t.source) t.places.now.at t.places.now.count types

-- their names are the values there
abbrev pub NamesTypes : TypeTable → List TypeDef → Type 0
NamesTypes t types = Named t.source.values.now t.places.now.at t.places.now.count types
