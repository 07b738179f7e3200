-- A node that is to be rewritten, with its plan and its working tables.
use Rattle.std.specs.Prelude.{◌*◌, ◌≤◌, ◌≡◌, List, length}
use Rattle.std.proofs.Math.Option.{none}
use Rattle.definitions.specs.Lists.{Letters}
use Rattle.definitions.specs.Tree.{Equation}
use Rattle.definitions.specs.Clock.{Clock}
use Rattle.definitions.specs.InferClocks.{Clocked}
use Rattle.definitions.specs.Declock.{declared}
use Rattle.definitions.specs.Output.{letters_of}
use Rattle.stateless.specs.Need.{Needs}
use Rattle.stateless.specs.Yield.{Ids, Yield, old_yield}
use Rattle.stateless.specs.Faults.{old_fault}
use Rattle.stateless.specs.Whole.{no_needs, old_needs}
use Rattle.stateless.specs.Locals.{ids_in}
use Rattle.new_names.specs.Names.{ChainOrdered}
use Rattle.planned.specs.Writes.{Writer}
use Rattle.planned.specs.Held.{HeldFrom}
use Rattle.planned.specs.Planned.{EquationsPlanned}
use Rattle.planned.specs.Grounds.{Grounds}
use Rattle.declock.specs.declared.Flags.{Flags}
use Rattle.declock.specs.declared.ReadyNode.{ReadyNode}
use Rattle.declock.specs.Tabled.{flagged_clocks}

-- the ids that the tables say
abbrev pub ids_of : ReadyNode → Ids
ids_of t = ids_in (flagged_clocks t.flags) (flagged_clocks t.firsts) t.flags.ids.now t.firsts.ids.now t.written.ids.holds.now t.written.ids.condact

-- these clocks have flags: each has its row, and the rows stand in chain order
pub record FlagsReady (names : List Letters) (f : Flags) (clocks : List Clock) : Type 0 where
  pub fit : 17 * f.clocks.count ≤ length f.clocks.words.now
  pub flagged : flagged_clocks f ≡ clocks
  pub order : ChainOrdered (letters_of names) f.clocks.words.now f.names.now.order f.names.now.ordered clocks
  pub few : length clocks ≤ 1024

-- the node stands where the layout says and meets no fault; its equations, their clocks known, and its holds are planned, and its tables
-- are filled
pub record NodeReady (names : List Letters) (t : ReadyNode) : Type 0 where
  pub writer : Writer
  pub grounds : Grounds t.written t.layout writer
  pub equations : List Clocked
  pub many : length equations ≡ t.layout.equations.count
  pub faultless : old_fault writer.types writer.nodes writer.node t.written.ids.condact 0 equations ≡ none
  pub few-declared : length (declared writer.node) ≤ 128
  pub few-equations : length writer.node.equations ≤ 64
  pub flags : FlagsReady names t.flags (old_needs writer.types writer.nodes writer.node t.written.ids.condact equations no_needs).flags
  pub firsts : FlagsReady names t.firsts (old_needs writer.types writer.nodes writer.node t.written.ids.condact equations no_needs).firsts
  pub held-many : t.names.now.holds ≡ (old_needs writer.types writer.nodes writer.node t.written.ids.condact equations no_needs).holds
  pub few-holds : t.names.now.holds ≤ 1024
  pub held-length : length t.written.holds.now ≡ t.names.now.holds
  pub planned : EquationsPlanned t.written.index.now.source.names t.written.index.now.source.tags.now t.written.index.now.source.values.now writer t.written.plan.now writer.condact (ids_of t) 0 equations t.layout.equations.at t.layout.equations.end
  pub held : HeldFrom t.written.index.now.source.names t.written.index.now.source.tags.now t.written.index.now.source.values.now writer t.written.plan.now t.written.holds.now 0 (old_yield writer.types writer.nodes writer.node (ids_of t) 0 equations).holds

module _ {names : List Letters} {t : ReadyNode} (h : NodeReady names t) where
  -- what rewriting it needs
  abbrev pub needs_in : Needs
  needs_in = old_needs h.writer.types h.writer.nodes h.writer.node t.written.ids.condact h.equations no_needs

  -- what its equations yield
  abbrev pub yield_in : Ids → Yield (List Equation)
  yield_in ids = old_yield h.writer.types h.writer.nodes h.writer.node ids 0 h.equations
