-- What clock inference left of a node in the working tables.
use Rattle.std.specs.Prelude.{ℕ, ◌*◌, ◌≤◌, ◌≡◌, List, length}
use Rattle.definitions.specs.InferClocks.{Clocking, clocking, formed}
use Rattle.definitions.specs.Output.{ClockedNode}
use Rattle.grammar.specs.declared.source.Source.{Source}
use Rattle.grammar.specs.Read.{tokens_of}
use Rattle.layout.specs.Laid.{LaidNode}
use Rattle.findings.specs.Findings.{findings_in}
use Rattle.skeleton.specs.Sites.{EquationsOn}
use Rattle.lines.specs.declared.ToldNode.{ToldNode}

-- a node's clocks: the number of passes, the findings in one table, the equations' clocks in the rows of their counts in another
pub record ToldClocks (s : Source) (t sites : List ℕ) (told : ToldNode) (k : Clocking) : Type 0 where
  pub made : k.passes ≡ told.clocked.passes
  pub room : 38 * told.clocked.findings ≤ length t
  pub all : findings_in t told.clocked.findings ≡ k.findings
  pub on : EquationsOn s.names s.tags.now s.values.now sites k.equations told.layout.equations.at told.layout.equations.end

-- a node laid out, with its clocks in these tables
pub record NodeWithClocks (s : Source) (t sites : List ℕ) (told : ToldNode) (n : ClockedNode) : Type 0 where
  pub end : ℕ
  pub laid : LaidNode s.names (tokens_of s) n.node end told.layout
  pub formed : clocking n.node ≡ formed n.clocking
  pub tells : ToldClocks s t sites told n.clocking
