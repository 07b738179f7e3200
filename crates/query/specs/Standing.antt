-- A sheet in the working tables, and what is told of its nodes.
use Rattle.std.specs.Prelude.{ℕ, ◌+◌, ◌≤◌, ◌<◌, ◌≡◌, ◌⊎◌, List, ◌∷◌, length, take, Result, Ok, Err}
use Rattle.definitions.specs.declared.Refusal.{Refusal}
use Rattle.definitions.specs.Tree.{Node}
use Rattle.definitions.specs.Reading.{got, times}
use Rattle.definitions.specs.Grammar as grammar
use Rattle.definitions.specs.Grammar.{sheet}
use Rattle.definitions.specs.Refusals.{Answer, accepted, refused, ◌>>=◌}
use Rattle.definitions.specs.InferClocks.{deep, formed, Clocking, clocking}
use Rattle.definitions.specs.Output.{letters_of, ClockedNode}
use Rattle.definitions.specs.Answer.{Input, clockings, item_at, node_at}
use Rattle.grammar.specs.declared.source.Source.{Source}
use Rattle.grammar.specs.Read.{tokens_of}
use Rattle.spelling.specs.declared.names.Spelling.{Spelling}
use Rattle.spelling.specs.Places.{letters_in}
use Rattle.layout.specs.Laid.{LaidNode}
use Rattle.lines.specs.declared.ToldNode.{ToldNode}
use Rattle.lines.specs.ToldClocks.{NodeWithClocks}
use Rattle.query.specs.declared.FoundNode.{FoundNode}

-- the sheet r stands here: the letters of its names, and its tokens
pub record Standing (spelling : Spelling) (source : Source) (r : Input) : Type 0 where
  pub named : letters_in spelling ≡ letters_of r.names
  pub few-letters : length spelling.letters.now ≤ 16384
  pub few-names : source.names ≤ 1024
  pub few-tokens : length source.tags.now ≤ 4096
  pub tree : sheet source.names (tokens_of source) 0 ≡ got r.sheet (length source.tags.now)

-- the first of these nodes with its clocks, where it is node k and no clock of them is too deep
abbrev pub first_from : ℕ → List Node → Answer ClockedNode
first_from k ns = clockings k ns >>= λ l. item_at l 0

-- node k of a sheet laid out, no clock before it being too deep; and the nodes behind it: the number of the first, and how many are read there
pub record FoundAt (source : Source) (r : Input) (k : ℕ) (f : FoundNode) : Type 0 where
  pub few : k < length r.sheet.nodes
  pub node : Node
  pub rest : List Node
  pub end : ℕ
  pub last : ℕ
  pub laid : LaidNode source.names (tokens_of source) node end f.layout
  pub asked : node_at r k ≡ first_from k (node ∷ rest)
  pub next : f.next ≡ k + 1
  pub behind : times f.behind (grammar.node source.names) (tokens_of source) f.layout.end ≡ got rest last

-- the same; or 8, as there is no node k; or 9 at a node before it: 9 at one behind it is told by `search_behind`
unfoldable pub NodeFound : Source → Input → ℕ → Result FoundNode Refusal → Type 0
NodeFound source r k (Err e) = (node_at r k ≡ refused e) × (((length r.sheet.nodes ≤ k) × (e ≡ Refusal.Missing)) ⊎ (clockings 0 (take k r.sheet.nodes) ≡ refused e))
NodeFound source r k (Ok f) = FoundAt source r k f

-- node k, which is n, with its clocks, or 9
unfoldable pub ClockedAs : Source → List ℕ → List ℕ → ℕ → Node → Result ToldNode Refusal → Type 0
ClockedAs s t sites k n (Err r) = (clocking n ≡ deep) × (r ≡ Refusal.Deep k)
ClockedAs s t sites k n (Ok told) = (c : Clocking) × (clocking n ≡ formed c) × NodeWithClocks s t sites told (record { node = n; clocking = c }) × (told.number ≡ k)

-- node k with its clocks, or 8 or 9
unfoldable pub NodeTold : Source → List ℕ → List ℕ → ℕ → Result ToldNode Refusal → Answer ClockedNode → Type 0
NodeTold s t sites k (Err r) v = v ≡ refused r
NodeTold s t sites k (Ok told) v = (n : ClockedNode) × (v ≡ accepted n) × NodeWithClocks s t sites told n × (told.number ≡ k) × (k < 16)
