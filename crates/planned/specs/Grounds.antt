-- What a node is written with.
use Rattle.std.specs.Prelude.{ℕ, List}
use Rattle.grammar.specs.Read.{tokens_of}
use Rattle.definitions.specs.Tree.{TypeDef, Node}
use Rattle.definitions.specs.Declock.{declared}
use Rattle.layout.specs.Table.{Table}
use Rattle.layout.specs.declared.NodeLayout.{NodeLayout}
use Rattle.layout.specs.Laid.{LaidNode}
use Rattle.typing.specs.Found.{Declares}
use Rattle.planned.specs.declared.WriteInput.{WriteInput}
use Rattle.planned.specs.Writes.{Writer}
use Rattle.planned.specs.Opening.{WriterStands}

-- the types of a sheet, and those of the names of a node
pub record TypesKnown (w : WriteInput) (types : List TypeDef) (node : Node) : Type 0 where
  pub layout : NodeLayout
  pub end : ℕ
  pub laid : LaidNode w.index.now.source.names (tokens_of w.index.now.source) node end layout
  pub table : Table w.index.now.source.names (tokens_of w.index.now.source) w.index.now.types.at w.index.now.types.count types
  pub declares : Declares w.index.now.source.names (tokens_of w.index.now.source) w.types.now (declared node)

-- the writer stands, its node too, and the table has the declared types of the node's names
pub record Grounds (w : WriteInput) (layout : NodeLayout) (W : Writer) : Type 0 where
  pub stands : WriterStands w W
  pub end : ℕ
  pub laid : LaidNode w.index.now.source.names (tokens_of w.index.now.source) W.node end layout
  pub declares : Declares w.index.now.source.names (tokens_of w.index.now.source) w.types.now (declared W.node)
