-- Defaults of outputs, which are few.
-- Assumes nothing.
use mathlib.Core.Path.{◌≡◌, refl, sym, ◌∙◌}
use mathlib.Core.List.{List, [], ◌∷◌}
use mathlib.Core.Bool.{Bool, true, false}
use mathlib.Core.Option.{Option, none, some}
use Prim.Native.Nat.{ℕ, suc, ◌-◌, ◌≤◌}
use native.Mathlib.Omega.{arith}
use lib.Dec.{eqb}
use lib.ListN.{length, get_or, get_elem?}
use Rattle.definitions.specs.Lists.{choose, find, or_else, join}
use Rattle.definitions.specs.Tokens.{TagValue}
use Rattle.definitions.specs.Bytes.{tokens}
use Rattle.definitions.specs.Tree.{Ty, Declared, TypeDef, Expr, Node}
use Rattle.definitions.specs.Reading.{got}
use Rattle.definitions.specs.Grammar.{declaration, ty}
use Rattle.definitions.specs.Types.{default}
use Rattle.definitions.specs.Declock.{is_operator_kind, operator_outputs}
use Rattle.definitions.specs.InferClocks.{Fault, no_output_default}
use Rattle.definitions.specs.Output.{expr_tokens, operand_tokens}
use Rattle.std.specs.declared.option.Option as code
use Rattle.std.specs.declared.option.Option.TheVariants.{None, Some}
use Rattle.layout.specs.declared.Span.{Span}
use Rattle.layout.specs.declared.DeclarationLayout.{DeclarationLayout}
use Rattle.layout.specs.Spans.{Spans}
use Rattle.layout.specs.Walk.{LaidAll}
use Rattle.layout.proofs.Walks.{first-laid, none-laid}
use Rattle.planned.specs.Opening.{Behind}
use Rattle.grammar.proofs.Laws.{times-length}
use Rattle.grammar.proofs.Got.{declarations-got, node-got}
use Rattle.operands.proofs.Laws.{count-place}
use Rattle.index.specs.Callees.{NodesStand}
use Rattle.stateless.specs.Yield.{output_trees}
use Rattle.stateless.specs.Faults.{unless, outputs_fault}
use Rattle.emit.specs.declared.output.Output.{Output}
use Rattle.emit.specs.Out.{emits}
use Rattle.emit.proofs.Laws.{emits_none}
use Rattle.emit.proofs.NodePartsLaws.{after}

default-there : {A : Type 0} (o : Option A) (f : Fault) (r : Option Fault) → or_else (unless o f) r ≡ none → ((a : A) × (o ≡ some a)) × (r ≡ none)
default-there none f r h = absurd cc
default-there (some a) f r h = ((a, refl), h)

module _ (types : List TypeDef) (nodes : List Node) (node : Node) (f : ℕ) where
  pub first-default : (ds : List Declared) (d : Declared) (rest : List Declared) → ds ≡ d ∷ rest → outputs_fault types nodes node f ds ≡ none → ((a : Expr) × (default types d.type ≡ some a)) × (outputs_fault types nodes node f rest ≡ none)
  unfolding outputs_fault
  first-default ds d rest w h = default-there (default types d.type) (no_output_default d.name f) (outputs_fault types nodes node f rest) (rw w at h)

  no-defaults : (ds : List Declared) (o : Output) → ds ≡ [] → o ≡ emits o (join (operand_tokens (output_trees types nodes node ds)))
  unfolding output_trees operand_tokens
  no-defaults ds o z = rw z (sym (emits_none o))

  pub more-defaults : (ds : List Declared) (d : Declared) (rest : List Declared) (a : Expr) (o o₁ o₂ : Output) → ds ≡ d ∷ rest → default types d.type ≡ some a → o₁ ≡ emits o (expr_tokens a) → o₂ ≡ emits o₁ (join (operand_tokens (output_trees types nodes node rest))) →
      o₂ ≡ emits o (join (operand_tokens (output_trees types nodes node ds)))
  unfolding output_trees operand_tokens
  more-defaults ds d rest a o o₁ o₂ w i e g = after o o₁ o₂ (expr_tokens a) (join (operand_tokens (output_trees types nodes node rest))) e g ∙ rw (w, i)

-- the outputs that a walk has still to give, whose defaults are to be written behind what is written
module _ (types : List TypeDef) (nodes : List Node) (node : Node) (f M : ℕ) (ts : List TagValue) where
  pub record DefaultsLeft (ls : List DeclarationLayout) (all o : Output) : Type 0 where
    pub rest : List Declared
    pub laid : LaidAll M ts rest ls
    pub faultless : outputs_fault types nodes node f rest ≡ none
    pub whole : all ≡ emits o (join (operand_tokens (output_trees types nodes node rest)))

  pub defaults-next : (l : DeclarationLayout) (ls : List DeclarationLayout) (all o o₁ : Output) → ((t : Ty) (q : ℕ) (e : Expr) → ty M 8 ts l.type_at ≡ got t q → default types t ≡ some e → o₁ ≡ emits o (expr_tokens e)) → DefaultsLeft (l ∷ ls) all o → DefaultsLeft ls all o₁
  defaults-next l ls all o o₁ put h =
      let a = first-laid h.laid in
      let b = first-default types nodes node f h.rest a.first a.rest a.whole h.faultless in
      record {
        rest = a.rest;
        laid = a.others;
        faultless = b.1;
        whole = h.whole ∙ sym (more-defaults types nodes node f h.rest a.first a.rest b.0.0 o o₁ _ a.whole b.0.1 (put a.first.type a.to b.0.0 a.laid.typed b.0.1) refl);
      }

  pub defaults-end : (ls : List DeclarationLayout) (all o : Output) → ls ≡ [] → DefaultsLeft ls all o → o ≡ all
  defaults-end ls all o e h = no-defaults types nodes node f h.rest o (none-laid (rw e at h.laid)) ∙ sym h.whole

  -- where there are outputs, and where there are none
  pub spans-behind : (s : Span) (u : code.Option Span) → u ≡ Some s → (ds : List Declared) → Behind M ts u ds → Spans (declaration M) ts ds s
  unfolding Behind
  spans-behind s u i ds d = rw i at d

  pub none-behind : (u : code.Option Span) → u ≡ None → (o : Output) (ds : List Declared) → Behind M ts u ds → o ≡ emits o (join (operand_tokens (output_trees types nodes node ds)))
  unfolding Behind
  none-behind u i o ds d = no-defaults types nodes node f ds o (rw i at d)

-- the outputs of an operator are few
find-there : (p : Node → Bool) (l : List Node) (n : Node) → find p l ≡ some n → (i : ℕ) × (get_elem? l i ≡ some n)
find-there p [] n h = absurd cc
find-there p (m ∷ l) n h = go (p m) (λ g. find-there p l n g) h
  where
    go : (b : Bool) → (find p l ≡ some n → (i : ℕ) × (get_elem? l i ≡ some n)) → choose b (some m) (find p l) ≡ some n → (i : ℕ) × (get_elem? (m ∷ l) i ≡ some n)
    go true r h = (0, h)
    go false r h = let s = r h in (suc s.0, s.1)

outputs-of : (o : Option Node) (os : List Declared) → elim o [ none ↦ none | some n ↦ choose (is_operator_kind n.kind) (some n.outputs) none ] ≡ some os → (n : Node) × (o ≡ some n) × (n.outputs ≡ os)
outputs-of none os h = absurd cc
outputs-of (some n) os h = go (is_operator_kind n.kind) h
  where
    go : (b : Bool) → choose b (some n.outputs) none ≡ some os → (m : Node) × (some n ≡ some m) × (m.outputs ≡ os)
    go true h = (n, refl, cc)
    go false h = absurd cc

pub few-outputs : (M : ℕ) (gs vs places : List ℕ) (k : ℕ) (l : List Node) → NodesStand M gs vs places k l → (f : ℕ) (os : List Declared) → operator_outputs l f ≡ some os → length os ≤ 128
unfolding operator_outputs
few-outputs M gs vs places k l s f os h =
    let n = outputs-of (find (λ (m : Node). eqb m.name f) l) os h in
    let i = find-there (λ (m : Node). eqb m.name f) l n.0 n.1 in
    let r = s.each.stands i.0 n.0 i.1 in
    let p = node-got M (tokens gs vs) (get_or places i.0 0) n.0 r.0 r.1 in
    let d = declarations-got M (tokens gs vs) p.outputs_at (128 - length n.0.inputs) n.0.outputs p.locals_at p.outputs in
    let c = count-place (128 - length n.0.inputs) (tokens gs vs) p.outputs_at d.0 d.1 d.2 in
    let t = times-length (declaration M) (tokens gs vs) d.0 d.1 n.0.outputs p.locals_at d.3 in
    rw (sym n.2) (omega (arith, c.2, t))
