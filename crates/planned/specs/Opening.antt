-- What is written before a token's parts, and with what.
use Rattle.std.specs.Prelude.{ℕ, ◌+◌, ◌≡◌, List, [], ◌++◌, min}
use Rattle.std.proofs.Math.Option.{none}
use Rattle.std.specs.declared.option.Option as code
use Rattle.std.specs.declared.option.Option.TheVariants.{None, Some}
use Rattle.definitions.specs.Tokens.{TagValue}
use Rattle.grammar.specs.Read.{tokens_of}
use Rattle.definitions.specs.Tree.{Declared}
use Rattle.definitions.specs.Grammar.{declaration}
use Rattle.layout.specs.declared.Span.{Span}
use Rattle.layout.specs.Spans.{Spans}
use Rattle.layout.specs.Table.{Table}
use Rattle.index.specs.Indexed.{NodesIn}
use Rattle.stateless.specs.Faults.{outputs_fault}
use Rattle.emit.specs.declared.output.Output.{Output}
use Rattle.emit.specs.Out.{puts}
use Rattle.planned.specs.declared.WriteInput.{WriteInput}
use Rattle.planned.specs.declared.Plan.{Plan}
use Rattle.planned.specs.declared.Opened.{Opened}
use Rattle.planned.specs.Writes.{Writer, plan_at, Writes, default_codes}

-- two more, as far as a word goes
abbrev pub two_more : ℕ → ℕ
two_more n = min (n + 2) 4294967295

-- what is written with: the writer's nodes and types stand where the index says, and its ids are those that are lent
pub record WriterStands (w : WriteInput) (W : Writer) : Type 0 where
  pub standing : NodesIn w.index.now W.nodes
  pub table : Table w.index.now.source.names (tokens_of w.index.now.source) w.index.now.types.at w.index.now.types.count W.types
  pub condact : W.condact ≡ w.ids.condact
  pub flags : W.flag_ids ≡ w.ids.flags.now
  pub firsts : W.first_ids ≡ w.ids.firsts.now
  pub holds : W.hold_ids ≡ w.ids.holds.now

-- what becomes of the token at p by the plan that is lent, and what this plan writes
abbrev pub plan_in : WriteInput → Writer → ℕ → Plan
plan_in w W p = plan_at w.index.now.source.tags.now w.index.now.source.values.now W w.plan.now p

abbrev pub WritesIn : WriteInput → Writer → ℕ → ℕ → ℕ → List TagValue → Type 0
WritesIn w W p n q l = Writes w.index.now.source.tags.now w.index.now.source.values.now W w.plan.now p n q l

-- the outputs whose defaults stand behind the parts, or none
unfoldable pub Behind : ℕ → List TagValue → code.Option Span → List Declared → Type 0
Behind M ts None ds = ds ≡ []
Behind M ts (Some s) ds = Spans (declaration M) ts ds s

-- of the part that is written as l up to q, the first tokens are written; the parts behind them, and the outputs' defaults, are left
pub record OpenedAs (w : WriteInput) (W : Writer) (q : ℕ) (l : List TagValue) (r : Opened) (o o₁ : Output) : Type 0 where
  pub head : List TagValue
  pub inner : List TagValue
  pub called : ℕ
  pub outputs : List Declared
  pub put : o₁ ≡ puts o head
  pub written : WritesIn w W r.from r.many q inner
  pub stand : Behind w.index.now.source.names (tokens_of w.index.now.source) r.outputs outputs
  pub faultless : outputs_fault W.types W.nodes W.node called outputs ≡ none
  pub whole : l ≡ head ++ (inner ++ default_codes W outputs)

-- whatever the plan writes so many parts from p on as is written, and they end there
pub record WrittenAs (w : WriteInput) (W : Writer) (p n : ℕ) (o o₁ : Output) (end : ℕ) : Type 0 where
  pub same : (q : ℕ) (l : List TagValue) → WritesIn w W p n q l → (o₁ ≡ puts o l) × (end ≡ q)
