-- An equation: its left names, and its right side in its frame.
-- Assumes nothing.
use Prim.Native.Nat.{ℕ, ◌+◌, ◌≤◌, ◌<◌}
use mathlib.Core.Path.{◌≡◌, refl, sym, ◌∙◌, ap, subst}
use mathlib.Core.List.{List, ◌∷◌, ◌++◌, map}
use mathlib.Core.Option.{none}
use native.Mathlib.Omega.{arith}
use lib.ListN.{length, get_or}
use Rattle.definitions.specs.declared.Token.{Token}
use Rattle.definitions.specs.Tokens.{TagValue, code_of}
use Rattle.definitions.specs.Bytes.{tokens}
use Rattle.grammar.specs.Read.{tokens_of}
use Rattle.definitions.specs.Tree.{Equation}
use Rattle.definitions.specs.Reading.{got}
use Rattle.definitions.specs.Grammar.{name, equation}
use Rattle.definitions.specs.Clock.{Clock, is_base}
use Rattle.definitions.specs.Output.{name_tokens, expr_tokens, equation_tokens}
use Rattle.grammar.proofs.Parts.{counted-within}
use Rattle.grammar.proofs.Laws.{times-length, tokens-length}
use Rattle.grammar.proofs.Longer.{counted-grows}
use Rattle.grammar.proofs.Got.{equation-got, counted-value}
use Rattle.layout.specs.declared.Span.{Span}
use Rattle.layout.specs.Spans.{Spanned, Spans}
use Rattle.layout.proofs.Laws.{span-at, names_stand}
use Rattle.stateless.specs.Yield.{Ids, shape_after, yield, right_yield}
use Rattle.stateless.specs.Faults.{right_fault}
use Rattle.emit.specs.declared.output.Output.{Output}
use Rattle.emit.specs.Out.{emits}
use Rattle.emit.proofs.Laws.{emits-codes}
use Rattle.planned.specs.declared.WriteInput.{WriteInput}
use Rattle.planned.specs.Writes.{Writer}
use Rattle.planned.specs.Opening.{two_more, WritesIn, WriterStands, WrittenAs}
use Rattle.planned.specs.declared.Frame.{Frame}
use Rattle.planned.specs.Framed.{frame_in, frame_of, lead_in, LeadOut, Framed}
use Rattle.planned.specs.Planned.{EquationPlanned}
use Rattle.emit.proofs.NodePartsLaws.{after}
use Rattle.planned.proofs.FramesRights.{right-framed}

-- ---- where the parts of an equation stand
pub record PartsAt (M : ℕ) (ts : List TagValue) (p : ℕ) (e : Equation) (left : Span) : Type 0 where
  pub names : Spans (name M) ts e.left left
  pub right : left.end ≡ p + 1 + length e.left
  pub few : length e.left ≤ 8

pub parts_at : (M : ℕ) (gs vs : List ℕ) → length vs ≡ length gs → (p : ℕ) (e : Equation) (q : ℕ) (left : Span) → equation M (tokens gs vs) p ≡ got e q → Spanned (name M) gs vs p left → PartsAt M (tokens gs vs) p e left
parts_at M gs vs same p e q left g l =
    let t = equation-got M (tokens gs vs) p e q g in
    let s = span-at gs vs same (name M) p 3 1 8 t.0 t.1 t.2 t.3 t.5 t.6 left p l refl in
    let w = counted-grows 3 1 8 (tokens gs vs) p t.0 t.1 t.5 in
    let b : p < length gs = omega (arith, w.0, w.1, tokens-length gs vs same) in
    let v = counted-value gs vs same p 3 1 8 t.0 t.1 b t.5 in
    let n = names_stand gs vs same M t.0 t.1 t.2 t.3 t.6 in
    let m = times-length (name M) (tokens gs vs) t.0 t.1 t.2 t.3 t.6 in
    let c = counted-within 3 1 8 (tokens gs vs) p t.0 t.1 t.5 in
    let f : t.2 ≡ e.left = sym (ap (λ (y : Equation). y.left) t.8) in
    let h = ap length f in
    record { names = subst (λ (y : List ℕ). Spans (name M) (tokens gs vs) y left) f s.0; right = omega (arith, s.1, v.2, n.1, m, h); few = omega (arith, c.1, m, h) }

-- ---- an equation
module _ (w : WriteInput) (W : Writer) (ids : Ids) (n p : ℕ) (c : Clock) (e : Equation) (q : ℕ) (same : ids.condact ≡ W.condact) (free : right_fault W.types W.nodes W.node W.condact c e.left e.right ≡ none)
    (h : EquationPlanned w.index.now.source.names w.index.now.source.tags.now w.index.now.source.values.now W w.plan.now W.condact ids n c e p q) where
  abbrev inner : List Token
  inner = expr_tokens (yield W.types W.nodes W.node ids c n e.right).value

  abbrev whole : List Token
  whole = expr_tokens (right_yield W.types W.nodes W.node ids c e.left n e.right).value

  -- its right side in the frame that its word says
  framed : Framed W.types W.nodes W.node W.condact (frame_in W.flag_ids (length e.left) (get_or w.plan.now p 0)) e.left inner whole
  framed =
      rw h.framed (
      subst (λ (k : ℕ). Framed W.types W.nodes W.node k (frame_of (is_base c) k (ids.flag c) e.left (shape_after W.types W.nodes W.node k c e.right)) e.left inner whole)
      same
      (right-framed W.types W.nodes W.node ids c e.left n e.right (ap (λ (k : ℕ). right_fault W.types W.nodes W.node k c e.left e.right) same ∙ free))
      )

  pub equation-written : (left : Span) → PartsAt w.index.now.source.names (tokens_of w.index.now.source) p e left → WriterStands w W → (word : ℕ) → word ≡ get_or w.plan.now p 0 → (f : Frame) → f ≡ frame_in w.ids.flags.now left.count word →
      (o o₁ o₂ o₃ o₄ : Output) (end : ℕ) → o₁ ≡ emits o (Token.Count (length e.left) ∷ name_tokens e.left) → o₂ ≡ emits o₁ (lead_in w.ids.condact (two_more left.count) f) → WrittenAs w W left.end 1 o₂ o₃ end →
      ((ks : List Token) → LeadOut W.types W.nodes W.node f e.left ks → o₄ ≡ emits o₃ ks) →
      (o₄ ≡ emits o (equation_tokens (record { left = e.left; right = (right_yield W.types W.nodes W.node ids c e.left n e.right).value }))) × (end ≡ q)
  unfolding equation_tokens
  equation-written left s stands word u f v o o₁ o₂ o₃ o₄ end a b d g =
      let m = s.names.many in
      let is : f ≡ frame_in W.flag_ids (length e.left) (get_or w.plan.now p 0) = v ∙ rw (stands.flags, m, u) in
      let k = d.same q (map code_of inner) (subst (λ (x : ℕ). WritesIn w W x 1 q (map code_of inner)) (sym s.right) h.written) in
      let t : two_more left.count ≡ length e.left + 2 = omega (arith, m, s.few) in
      let l : lead_in w.ids.condact (two_more left.count) f ≡ lead_in W.condact (length e.left + 2) (frame_in W.flag_ids (length e.left) (get_or w.plan.now p 0)) = rw (t, stands.condact, is) in
      let r = g framed.behind (subst (λ (x : Frame). LeadOut W.types W.nodes W.node x e.left framed.behind) (sym is) framed.leads-out) in
      let z : o₃ ≡ emits o₂ inner = k.0 ∙ emits-codes o₂ (map code_of inner) inner refl in (
        after o o₁ o₄ (Token.Count (length e.left) ∷ name_tokens e.left) whole a
            (after o₁ o₂ o₄ (lead_in w.ids.condact (two_more left.count) f) (inner ++ framed.behind) b (after o₂ o₃ o₄ inner framed.behind z r)
            ∙ ap (emits o₁) (ap (λ (x : List Token). x ++ (inner ++ framed.behind)) l ∙ sym framed.whole)),
        k.1,
      )
