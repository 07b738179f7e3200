-- A node's new names in their tables: what rewriting it needs, the rows in chain order, and the numbers of its new names.
use Rattle.std.specs.Prelude.{ℕ, ◌*◌, ◌≤◌, ◌<◌, ◌≡◌, List, ◌⊎◌, length, Result, Ok, Err}
use Rattle.definitions.specs.Lists.{Letters}
use Rattle.definitions.specs.Tree.{TypeDef, Node}
use Rattle.definitions.specs.Clock.{Clock, in_chain_order}
use Rattle.definitions.specs.InferClocks.{Clocked}
use Rattle.definitions.specs.Declock.{Stem, ck, first, hold, declared}
use Rattle.definitions.specs.Output.{letters_of}
use Rattle.grammar.specs.Read.{tokens_of}
use Rattle.grammar.specs.declared.source.Source.{Source}
use Rattle.spelling.specs.Places.{letters_in}
use Rattle.spelling.specs.declared.names.Spelling.{Spelling}
use Rattle.layout.specs.Laid.{LaidNode}
use Rattle.layout.specs.declared.NodeLayout.{NodeLayout}
use Rattle.clock_tables.specs.Rows.{clocks_in}
use Rattle.chain_order.specs.Order.{row_of, picked, FirstBelow}
use Rattle.stateless.specs.declared.Counts.{Counts}
use Rattle.stateless.specs.Need.{Needs, Counted}
use Rattle.stateless.specs.Whole.{no_needs, old_needs}
use Rattle.new_names.specs.Many as many
use Rattle.new_names.specs.Names.{Numbered, ChainOrdered}
use Rattle.new_names.specs.declared.NodeNeeds.{NodeNeeds}
use Rattle.new_names.specs.declared.flag_names.FlagNames.{FlagNames}
use Rattle.new_names.specs.declared.node_names.NodeNames.{NodeNames}
use Rattle.new_names.specs.declared.TooMany.{TooMany}

-- so many of a kind are needed
abbrev pub Many : NodeNeeds → Type 0
Many needs = (1024 < needs.flags.count) ⊎ (1024 < needs.firsts.count) ⊎ (1024 < needs.holds)

-- of no kind so many
pub record Few (needs : NodeNeeds) : Type 0 where
  pub flags : needs.flags.count ≤ 1024
  pub firsts : needs.firsts.count ≤ 1024
  pub holds : needs.holds ≤ 1024

-- the lists of clocks say what is needed
abbrev pub counts_of : NodeNeeds → Counts
counts_of needs = record { flags = needs.flags.count; firsts = needs.firsts.count; holds = needs.holds; condact = needs.condact }

abbrev pub counted_in : NodeNeeds → Needs → Type 0
counted_in needs w = Counted needs.flags.words.now needs.firsts.words.now (counts_of needs) w

-- a table with fewer rows than an output may have names has a row for each of these clocks
abbrev pub HasRows : List ℕ → List Clock → Type 0
HasRows t clocks = length t < 17408 → 17 * length clocks ≤ length t

-- the first n rows in chain order: k rows, which the order names
pub record Sorted (letters : ℕ → Letters) (rows order : List ℕ) (n k : ℕ) : Type 0 where
  pub few : k ≤ n
  pub sorted : picked (row_of rows) order 0 k ≡ in_chain_order letters (clocks_in rows n)
  pub below : FirstBelow order k n

-- the rows of these clocks in chain order, and the numbers of their new names of a stem
pub record FlagsNamed (names : List Letters) (node : Node) (stem : Stem) (rows : List ℕ) (f : FlagNames) (clocks : List Clock) : Type 0 where
  pub order : ChainOrdered (letters_of names) rows f.order f.ordered clocks
  pub numbers : Numbered names node stem f.numbers (length clocks)

-- the tables say what is needed: the clocks, their chain order, and the numbers of the new names
pub record Filled (names : List Letters) (node : Node) (w : Needs) (needs : NodeNeeds) (t : NodeNames) : Type 0 where
  pub counted : counted_in needs w
  pub few : Few needs
  pub flags : FlagsNamed names node ck needs.flags.words.now t.flags w.flags
  pub firsts : FlagsNamed names node first needs.firsts.words.now t.firsts w.firsts
  pub hold-numbers : Numbered names node hold t.hold_numbers w.holds
  pub held : t.holds ≡ w.holds
  pub gated : t.condact ≡ w.condact

-- the tables are filled; or more is needed than the output has places for names
abbrev pub FilledOrNot : List Letters → Node → Needs → NodeNeeds → NodeNames → Result Unit TooMany → Type 0
FilledOrNot names node w needs t (Ok u) = Filled names node w needs t
FilledOrNot names node w needs t (Err e) = many.TooMany w

-- the same of a node that stands where the layout says, where the lists of clocks have a row for each that is needed, and say what is
-- needed
abbrev pub FilledAt : Spelling → Source → NodeLayout → NodeNeeds → NodeNames → Result Unit TooMany → Type 0
FilledAt spelling source l needs t r =
    (all : List Letters) (node : Node) (q condact : ℕ) (cs : List Clocked) (types : List TypeDef) (ns : List Node)
    → letters_in spelling ≡ letters_of all → LaidNode source.names (tokens_of source) node q l → length (declared node) ≤ 128
    → HasRows needs.flags.words.now (old_needs types ns node condact cs no_needs).flags → HasRows needs.firsts.words.now (old_needs types ns node condact cs no_needs).firsts → counted_in needs (old_needs types ns node condact cs no_needs)
    → FilledOrNot all node (old_needs types ns node condact cs no_needs) needs t r
