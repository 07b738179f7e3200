-- The walk in the code's terms: what is written before a token's parts, one part, and parts one after another.
-- Assumes nothing.
use mathlib.Core.Path.{◌≡◌, refl, sym, ◌∙◌, ap, subst}
use mathlib.Core.List.{List, [], ◌∷◌, ◌++◌, append-nil}
use mathlib.Core.Option.{none}
use Prim.Native.Nat.{ℕ, ◌+◌, ◌-◌, ◌<◌}
use native.Mathlib.Omega.{arith}
use lib.ListN.{length, get_or}
use Rattle.definitions.specs.Lists.{join}
use Rattle.definitions.specs.Tokens.{TagValue, code_of}
use Rattle.grammar.specs.Read.{tokens_of}
use Rattle.definitions.specs.Tree.{Declared, TypeDef, Node}
use Rattle.definitions.specs.Grammar.{declaration}
use Rattle.definitions.specs.Declock.{operator_outputs}
use Rattle.definitions.specs.Output.{operand_tokens}
use Rattle.layout.specs.declared.Span.{Span}
use Rattle.layout.specs.Spans.{Spans}
use Rattle.layout.specs.Table.{Table}
use Rattle.std.specs.declared.option.Option as code
use Rattle.std.specs.declared.option.Option.TheVariants.{None, Some}
use Rattle.index.specs.Callees.{OutputsStand}
use Rattle.layout.specs.Owed.{follows, Owed}
use Rattle.stateless.specs.Yield.{output_trees}
use Rattle.stateless.specs.Faults.{outputs_fault}
use Rattle.emit.specs.declared.output.Output.{Output}
use Rattle.emit.specs.Out.{puts, emits}
use Rattle.emit.proofs.Laws.{emits-codes}
use Rattle.definitions.specs.declared.ExprToken.{ExprToken}
use Rattle.planned.specs.Framed.{gate_tokens, named_tokens}
use Rattle.skeleton.specs.Lies.{code_at}
use Rattle.planned.specs.declared.Plan.{Plan}
use Rattle.planned.specs.declared.WriteInput.{WriteInput}
use Rattle.planned.specs.declared.Opened.{Opened}
use Rattle.planned.specs.Writes.{Writer, plan_of, named, gate_codes, default_codes, Writes}
use Rattle.planned.specs.Opening.{two_more, Behind, plan_in, WritesIn, WriterStands, OpenedAs, WrittenAs}
use Rattle.planned.proofs.Laws.{then, split, writes-none, writes-on, stay-in, drop-in, choice-in, hold-in, gate-in}
use Rattle.planned.proofs.Defaults.{few-outputs}

same-gate : (c k n m flag : ℕ) (l : List TagValue) → c ≡ k → n ≡ m → gate_codes c n flag l ≡ gate_codes k m flag l
same-gate c k n m flag l e f = rw (e, f)

module _ (w : WriteInput) (W : Writer) where
  abbrev gs : List ℕ
  gs = w.index.now.source.tags.now

  abbrev vs : List ℕ
  vs = w.index.now.source.values.now

  abbrev plan : List ℕ
  plan = w.plan.now

  abbrev M : ℕ
  M = w.index.now.source.names

  -- the word that was found says what becomes of the token
  pub is-plan : (at u : ℕ) (p : Plan) → WriterStands w W → u ≡ get_or plan at 0 → p ≡ plan_of w.ids.flags.now w.ids.firsts.now w.ids.holds.now (get_or gs at 0) (get_or vs at 0) u → plan_in w W at ≡ p
  is-plan at u p s i j = rw (s.flags, s.firsts, s.holds, ← i) (sym j)

  -- a token without defaults behind its parts
  ungated : (q many from : ℕ) (l head inner : List TagValue) (o o₁ : Output) → o₁ ≡ puts o head → WritesIn w W from many q inner → l ≡ head ++ inner →
      (r : Opened) → r ≡ record { many = many; from = from; outputs = None } → OpenedAs w W q l r o o₁
  unfolding Behind output_trees operand_tokens outputs_fault
  ungated q many from l head inner o o₁ e h i r j =
      rw j (record {
        head = head;
        inner = inner;
        called = 0;
        outputs = [];
        put = e;
        written = h;
        stand = refl;
        faultless = refl;
        whole = i ∙ ap (λ (z : List TagValue). head ++ z) (sym (append-nil inner));
      })

  module _ (at q : ℕ) (l : List TagValue) (x : WritesIn w W at 1 q l) (p : Plan) (i : plan_in w W at ≡ p) (o o₁ : Output) (r : Opened) where
    pub opened-stay : p ≡ Plan.Stay → (many : ℕ) → o₁ ≡ puts o (code_at gs vs at ∷ []) → many ≡ follows (get_or gs at 0) (get_or vs at 0) →
        r ≡ record { many = many; from = at + 1; outputs = None } → OpenedAs w W q l r o o₁
    opened-stay e many a b j = let s = stay-in gs vs W plan x refl (i ∙ e) in ungated q many (at + 1) l (code_at gs vs at ∷ []) s.0 o o₁ a (rw b s.1) s.2 r j

    pub opened-drop : p ≡ Plan.Drop → o₁ ≡ o → r ≡ record { many = 1; from = at + 1; outputs = None } → OpenedAs w W q l r o o₁
    unfolding puts
    opened-drop e a j = ungated q 1 (at + 1) l [] l o o₁ a (drop-in gs vs W plan x refl (i ∙ e)) refl r j

    pub opened-choice : (y : ℕ) → p ≡ Plan.Choose y → o₁ ≡ emits o (named_tokens ExprToken.If y) → r ≡ record { many = 2; from = at + 1; outputs = None } → OpenedAs w W q l r o o₁
    unfolding code_of
    opened-choice y e a j = let s = choice-in gs vs W plan x refl y (i ∙ e) in ungated q 2 (at + 1) l (named 57 y []) s.0 o o₁ (a ∙ sym (emits-codes o (named 57 y []) (named_tokens ExprToken.If y) refl)) s.1 s.2 r j

    pub opened-hold : (y : ℕ) → p ≡ Plan.Hold y → o₁ ≡ emits o (named_tokens ExprToken.Pre y) → (end : ℕ) → ((q : ℕ) → Owed gs vs (at + 1) 1 q → end ≡ q) →
        r ≡ record { many = 0; from = end; outputs = None } → OpenedAs w W q l r o o₁
    unfolding code_of
    opened-hold y e a end h j =
        let s = hold-in gs vs W plan x refl y (i ∙ e) in
        ungated q 0 end l (named 58 y []) [] o o₁ (a ∙ sym (emits-codes o (named 58 y []) (named_tokens ExprToken.Pre y) refl)) (subst (λ (u : ℕ). WritesIn w W u 0 q []) (sym (h q s.0)) Writes.done) s.1 r j

  -- a gated call, whose outputs were found
  module _ (s : WriterStands w W) (at q flag : ℕ) (l : List TagValue) (i : plan_in w W at ≡ Plan.Gate flag) (x : WritesIn w W at 1 q l) (c : code.Option Span) (d : OutputsStand M (tokens_of w.index.now.source) (operator_outputs W.nodes (get_or vs at 0)) c) where
    pub opened-other : c ≡ None → ⊥
    unfolding OutputsStand
    opened-other e = let g = gate-in gs vs W plan x refl flag i in rw (g.found, e) at d

    pub opened-gate : (u : Span) → c ≡ Some u → (o o₁ o₂ : Output) → o₁ ≡ emits o (gate_tokens w.ids.condact (two_more u.count) flag) → o₂ ≡ puts o₁ (code_at gs vs at ∷ []) →
        OpenedAs w W q l (record { many = 1; from = at + 1; outputs = Some u }) o o₂
    unfolding OutputsStand Behind code_of
    opened-gate u e o o₁ o₂ a b =
        let g = gate-in gs vs W plan x refl flag i in
        let y : Spans (declaration M) (tokens_of w.index.now.source) g.outputs u = rw (g.found, e) at d in
        let m : two_more u.count ≡ length g.outputs + 2 = omega (arith, y.many, few-outputs M gs vs w.index.now.nodes.at w.index.now.nodes.count W.nodes s.standing (get_or vs at 0) g.outputs g.found) in
        record {
          head = gate_codes w.ids.condact (two_more u.count) flag (code_at gs vs at ∷ []);
          inner = g.inner;
          called = get_or vs at 0;
          outputs = g.outputs;
          put = then o o₁ o₂ (gate_codes w.ids.condact (two_more u.count) flag []) (code_at gs vs at ∷ []) (gate_codes w.ids.condact (two_more u.count) flag (code_at gs vs at ∷ [])) (a ∙ sym (emits-codes o (gate_codes w.ids.condact (two_more u.count) flag []) (gate_tokens w.ids.condact (two_more u.count) flag) refl)) b refl;
          written = g.written;
          stand = y;
          faultless = g.faultless;
          whole = g.whole ∙ same-gate W.condact w.ids.condact (length g.outputs + 2) (two_more u.count) flag (code_at gs vs at ∷ (g.inner ++ default_codes W g.outputs)) s.condact (sym m);
        }

  -- without outputs nothing is behind the parts
  undefaulted : (q : ℕ) (l : List TagValue) (r : Opened) (o o₁ : Output) → r.outputs ≡ None → (d : OpenedAs w W q l r o o₁) → l ≡ d.head ++ d.inner
  unfolding output_trees operand_tokens Behind
  undefaulted q l r o o₁ z d =
      let n : d.outputs ≡ [] = subst (λ (u : code.Option Span). Behind M (tokens_of w.index.now.source) u d.outputs) z d.stand in
      d.whole ∙ ap (λ (z : List TagValue). d.head ++ z) (ap (λ (ds : List Declared). d.inner ++ default_codes W ds) n ∙ append-nil d.inner)

  -- a token without parts
  module _ (at : ℕ) (r : Opened) (o o₁ : Output) (h : (q : ℕ) (l : List TagValue) → WritesIn w W at 1 q l → OpenedAs w W q l r o o₁) (z : r.outputs ≡ None) where
    pub walked-alone : r.many ≡ 0 → WrittenAs w W at 1 o o₁ r.from
    walked-alone m =
        record {
          same = λ q l x.
              let d = h q l x in
              let n = writes-none gs vs W plan d.written m in
              (d.put ∙ ap (puts o) (sym (undefaulted q l r o o₁ z d ∙ (ap (λ (y : List TagValue). d.head ++ y) n.1 ∙ append-nil d.head))), n.0);
        }

  -- what is before the parts, the parts, and what is behind them
  pub walked : (at : ℕ) (r : Opened) (o o₁ o₂ o₃ : Output) (end : ℕ) → WriterStands w W →
      ((q : ℕ) (l : List TagValue) → WritesIn w W at 1 q l → OpenedAs w W q l r o o₁) →
      WrittenAs w W r.from r.many o₁ o₂ end →
      ((ts : List TypeDef) (l : List Node) (n : Node) (f : ℕ) (ds : List Declared) → Table M (tokens_of w.index.now.source) w.index.now.types.at w.index.now.types.count ts → Behind M (tokens_of w.index.now.source) r.outputs ds → outputs_fault ts l n f ds ≡ none → o₃ ≡ emits o₂ (join (operand_tokens (output_trees ts l n ds)))) →
      WrittenAs w W at 1 o o₃ end
  unfolding emits
  walked at r o o₁ o₂ o₃ end t h k f =
      record {
        same = λ q l x.
            let d = h q l x in
            let v = k.same q d.inner d.written in
            let g = f W.types W.nodes W.node d.called d.outputs t.table d.stand d.faultless in
            (then o o₁ o₃ d.head (d.inner ++ default_codes W d.outputs) l d.put (then o₁ o₂ o₃ d.inner (default_codes W d.outputs) (d.inner ++ default_codes W d.outputs) v.0 g refl) d.whole, v.1);
      }

  -- so many parts are left from here on, and the others are written
  pub record Left (q : ℕ) (whole o : Output) (from left : ℕ) : Type 0 where
    pub rest : List TagValue
    pub stand : WritesIn w W from left q rest
    pub same : whole ≡ puts o rest

  pub left-all : (at many q : ℕ) (l : List TagValue) (o : Output) → WritesIn w W at many q l → Left q (puts o l) o at (many - 0)
  left-all at many q l o h = let n : many - 0 ≡ many = omega arith in rw n (record { rest = l; stand = h; same = refl })

  pub left-none : (q : ℕ) (whole o : Output) (from left : ℕ) → left ≡ 0 → Left q whole o from left → (o ≡ whole) × (from ≡ q)
  unfolding puts
  left-none q whole o from left z d = let n = writes-none gs vs W plan d.stand z in (sym (d.same ∙ ap (puts o) n.1), n.0)

  module _ (q : ℕ) (whole o r : Output) (from many i end : ℕ) (z : i < many) (h : WrittenAs w W from 1 o r end) (d : Left q whole o from (many - i)) where
    pub left-past : from < end
    left-past =
        let s = split gs vs W plan d.stand 1 (many - (i + 1)) (omega arith) in
        let k = h.same s.end s.front s.here in
        let b = writes-on gs vs W plan s.here in
        omega arith

    pub left-rest : Left q whole r end (many - (i + 1))
    left-rest =
        let s = split gs vs W plan d.stand 1 (many - (i + 1)) (omega arith) in
        let k = h.same s.end s.front s.here in
        record {
          rest = s.back;
          stand = subst (λ (p : ℕ). WritesIn w W p (many - (i + 1)) q s.back) (sym k.1) s.rest;
          same = d.same ∙ (ap (puts o) s.whole ∙ sym (then o r (puts r s.back) s.front s.back (s.front ++ s.back) k.0 refl refl));
        }
