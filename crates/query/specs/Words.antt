-- Clocks and faults as words of a lent list.
use Rattle.std.specs.Prelude.{ℕ, ◌/◌, ◌≡◌, List, map, length, take}
use Rattle.definitions.specs.declared.FaultRecord.{FaultRecord}
use Rattle.definitions.specs.Lists.{join, over, Letters}
use Rattle.definitions.specs.Clock.{Clock}
use Rattle.definitions.specs.Answer.{NodeClocks, fault_record}
use Rattle.clock_tables.specs.Flat.{clock_words}
use Rattle.spelling.specs.Writing.{over_at}
use Rattle.definitions.specs.InferClocks.{chains, clock_faults}
use Rattle.findings.specs.Findings.{findings_in}
use Rattle.lines.specs.declared.ToldNode.{ToldNode}
use Rattle.query.specs.declared.NodeCounts.{NodeCounts}

-- the clocks of equations, or chains, in seventeen words each over the front of a list, as many as it has whole places for; later words
-- keep their values
unfoldable pub clocks_over : List Clock → List ℕ → List ℕ
clocks_over cs lent = over (join (map clock_words (take (length lent / 17) cs))) lent

-- a node's name, passes, and how many equations, chains and clock faults it has
abbrev pub counts_of : NodeClocks → NodeCounts
counts_of q = record { name = q.name; passes = q.passes; equations = length q.equations; chains = length q.chains; faults = length q.faults }

-- the same by what was told of a node, and what was found in it
abbrev pub found_counts : (ℕ → Letters) → List ℕ → ToldNode → NodeCounts
found_counts letters t told =
    record { name = told.layout.name; passes = told.clocked.passes; equations = told.layout.equations.count; chains = length (chains letters (findings_in t told.clocked.findings)); faults = length (clock_faults (findings_in t told.clocked.findings)) }

-- the clocks and faults of node k, over three lent lists
pub record Written (k : ℕ) (q : NodeClocks) (es cs : List ℕ) (fs : List FaultRecord) (es' cs' : List ℕ) (fs' : List FaultRecord) (r : NodeCounts) : Type 0 where
  pub counts : r ≡ counts_of q
  pub equations : es' ≡ clocks_over q.equations es
  pub chains : cs' ≡ clocks_over q.chains cs
  pub faults : fs' ≡ over (map (fault_record k) q.faults) fs

-- a text put at a place of lent bytes, as far as they reach: how long it is, and the bytes afterwards
pub record PutText (text : Letters) (at : ℕ) (lent : List ℕ) (size : ℕ) (after : List ℕ) : Type 0 where
  pub long : size ≡ length text
  pub bytes : after ≡ over_at at text lent
