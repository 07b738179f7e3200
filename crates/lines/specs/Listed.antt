-- A clocked node that is listed.
use Rattle.std.specs.Prelude.{◌≤◌, ◌≡◌}
use Rattle.definitions.specs.Lists.{Letters}
use Rattle.definitions.specs.InferClocks.{chains}
use Rattle.definitions.specs.Output.{ClockedNode}
use Rattle.definitions.specs.Answer.{node_listing}
use Rattle.spelling.specs.Places.{letters_in}
use Rattle.spelling.specs.Named.{Short}
use Rattle.findings.specs.Findings.{findings_in}
use Rattle.chain_order.specs.Order.{ordered_clocks}
use Rattle.chain_order.specs.declared.OrderedClocks.{OrderedClocks}
use Rattle.lines.specs.ToldClocks.{NodeWithClocks}
use Rattle.lines.specs.declared.ListedNode.{ListedNode}

-- the node that is listed, with its clocks, is n: laid out so, and what was told and found is of its clocks
abbrev pub Lists : ListedNode → ClockedNode → Type 0
Lists l n = NodeWithClocks l.named.source l.table.now l.sites.now l.told n

-- these are its chains, in order
abbrev pub AreChains : ListedNode → OrderedClocks → Type 0
AreChains l o = ordered_clocks o ≡ chains (letters_in l.named.spelling) (findings_in l.table.now l.told.clocked.findings)

-- it has no more letters, tokens and findings than a sheet may have
pub record IsSmall (l : ListedNode) : Type 0 where
  pub short : Short l.named
  pub findings : l.told.clocked.findings ≤ 4096

-- its listing
abbrev pub listed : ListedNode → ClockedNode → Letters
listed l n = node_listing (letters_in l.named.spelling) l.told.number n
