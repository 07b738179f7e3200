-- An equation by its right side: where it stands, and what is noted of it.
-- Assumes nothing.
use mathlib.Core.Path.{◌≡◌, refl, sym, ◌∙◌, ap, subst}
use mathlib.Core.Bool.{Bool}
use mathlib.Core.List.{List, [], append-nil}
use mathlib.Core.Logic.{◌⊎◌, inl, inr}
use Prim.Native.Nat.{ℕ, zero, suc, ◌+◌, ◌≤◌, ◌<◌}
use native.Mathlib.Omega.{arith}
use lib.ListN.{length, get_or}
use borrow.Author.Tests.{lt-ltb}
use Rattle.definitions.specs.Lists.{choose}
use Rattle.definitions.specs.Bytes.{tokens}
use Rattle.definitions.specs.Tokens.{TagValue}
use Rattle.definitions.specs.Tree.{Equation}
use Rattle.definitions.specs.Reading.{got, times}
use Rattle.definitions.specs.Grammar.{name, equation}
use Rattle.definitions.specs.Clock.{Clock, is_base}
use Rattle.grammar.proofs.Got.{times-nil, times-cons, equation-got}
use Rattle.layout.specs.declared.Span.{Span}
use Rattle.layout.specs.Spans.{Spanned, Spans}
use Rattle.layout.proofs.Laws.{span-at}
use Rattle.typing.proofs.Laws.{label_is}
use Rattle.stateless.specs.Need.{Needs, needed}
use Rattle.stateless.specs.Leads.{Leads}
use Rattle.stateless.specs.Yield.{shape_after, right_yield}
use Rattle.stateless.specs.Whole.{right_needs}
use Rattle.stateless.specs.Locals.{ids_in}
use Rattle.skeleton.specs.Sites.{EquationSited}
use Rattle.planned.specs.Writes.{Writes}
use Rattle.planned.specs.declared.HeldOperand.{HeldOperand}
use Rattle.planned.specs.Held.{hold_at}
use Rattle.plan.specs.Planned.{Whole, Agrees, writer, Planned, tree_codes, tree_holds}
use Rattle.plan.specs.Tables.{Arrays, Tables, Begun}
use Rattle.plan.specs.Closed.{Beside}
use Rattle.plan.specs.Walks.{Setting, ground_of}
use Rattle.stateless.proofs.Growth.{leads-trans, leads-right}
use Rattle.planned.specs.Planned.{frame_by}
use Rattle.planned.specs.Framed.{frame_of}
use Rattle.node_plan.specs.Equations.{EquationNoted}
use Rattle.node_plan.proofs.Noting.{right-holds}

-- names take a token each
names-end : (M : ℕ) (gs vs : List ℕ) → length vs ≡ length gs → (n p : ℕ) (xs : List ℕ) (q : ℕ) → times n (name M) (tokens gs vs) p ≡ got xs q → q ≡ p + length xs
names-end M gs vs same zero p xs q g = let e = times-nil (name M) (tokens gs vs) zero p xs q refl g in rw e.0 (omega (arith, e.1))
names-end M gs vs same (suc n) p xs q g =
    let c = times-cons (name M) (tokens gs vs) (suc n) p xs q (λ z. omega arith) g in
    let u = label_is M gs vs same p c.0 c.1 c.3 in
    let r = names-end M gs vs same n c.1 c.2 q (subst (λ (m : ℕ). times m (name M) (tokens gs vs) c.1 ≡ got c.2 q) (omega arith) c.4) in
    rw c.5 (omega (arith, r, u.3))

-- the left names, and where the right side stands
pub lefts-stand : (M : ℕ) (gs vs : List ℕ) → length vs ≡ length gs → (p : ℕ) (l : Span) → Spanned (name M) gs vs p l → (e : Equation) (q : ℕ) → equation M (tokens gs vs) p ≡ got e q → Spans (name M) (tokens gs vs) e.left l
lefts-stand M gs vs same p l el e q g =
    let t = equation-got M (tokens gs vs) p e q g in
    let s = span-at gs vs same (name M) p 3 1 8 t.0 t.1 t.2 t.3 t.5 t.6 l p el refl in
    subst (λ (y : List ℕ). Spans (name M) (tokens gs vs) y l) (sym (ap (λ (y : Equation). y.left) t.8)) s.0

pub right-stands : (M : ℕ) (gs vs : List ℕ) → length vs ≡ length gs → (p : ℕ) (l : Span) → Spanned (name M) gs vs p l → (e : Equation) (q : ℕ) → p < length gs → equation M (tokens gs vs) p ≡ got e q → l.end ≡ p + 1 + length e.left
right-stands M gs vs same p l el e q b g =
    let s = lefts-stand M gs vs same p l el e q g in
    let n = names-end M gs vs same l.count l.at e.left l.end s.items in
    let a : l.at ≡ p + 1 = el.first ∙ ap (λ (b : Bool). choose b (p + 1) p) (lt-ltb p (length gs) b) in
    omega arith

-- ---- what is noted of an equation whose right side is planned, and whose word is there
module _ (A : Arrays) (T : Setting) (condact : ℕ) (s s' s'' : Tables) (y : Needs) (c : Clock) (e : Equation) (p q : ℕ) (S : EquationSited A.names A.tags A.values A.sites c e p q)
    (P : Planned (ground_of A T) s s' (needed T.nodes c e.right y) (p + 1 + length e.left) 1 q (tree_codes (ground_of A T) c y.holds e.right) y.holds (tree_holds (ground_of A T) c y.holds e.right))
    (beside : Beside s'.plan s''.plan p) (h : s''.holds ≡ s'.holds) (o : p < q) (B : Begun s'' (right_needs T.types T.nodes T.node condact c e.left e.right y))
    (framed : (w : Needs) (x : ℕ) (F f H : List ℕ) → Whole T.flag_room T.first_room T.hold_room w → Leads (right_needs T.types T.nodes T.node condact c e.left e.right y) w → (plan'' : List ℕ) → get_or plan'' p 0 ≡ get_or s''.plan p 0 →
    frame_by A.names A.tags A.values (writer (ground_of A T) x F f H) plan'' condact (length e.left) (get_or plan'' p 0) ≡ frame_of (is_base c) condact ((ids_in w.flags w.firsts F f H x).flag c) e.left (shape_after T.types T.nodes T.node condact c e.right)) where
  pub noted : EquationNoted A T condact s s'' y c e p q
  unfolding right_yield
  noted =
      let z = needed T.nodes c e.right y in
      let v = right_needs T.types T.nodes T.node condact c e.left e.right y in
      let n = right-holds T.types T.nodes T.node condact c e.left e.right y in
      let up = leads-right T.types T.nodes T.node condact c e.left e.right y in
      record {
        begun = B;
        kept = other;
        held = λ i u. ap (λ (l : List HeldOperand). hold_at l i) h ∙ P.held i (same_row i n u);
        say = λ w x F f H W a plan''' agree.
            let ids = ids_in w.flags w.firsts F f H x in
            let t = P.says.say w x F f H W (leads-trans z v w up a) plan''' (inside plan''' agree) 0 q [] Writes.done in
            record { stands = S.stands; framed = framed w x F f H W a plan''' (agree p (omega arith) o); written = subst (λ (l : List TagValue). Writes A.tags A.values (writer (ground_of A T) x F f H) plan''' (p + 1 + length e.left) 1 q l) (append-nil (tree_codes (ground_of A T) c y.holds e.right ids)) t };
        hold = λ w x F f H W a plan''' holds''' agree same. P.says.hold w x F f H W (leads-trans z v w up a) plan''' holds''' (inside plan''' agree) (λ i d t. same i d (omega arith) ∙ ap (λ (l : List HeldOperand). hold_at l i) h);
      }
    where
      inside : (plan''' : List ℕ) → Agrees 0 s''.plan plan''' p q → Agrees 0 s'.plan plan''' (p + 1 + length e.left) q
      inside plan''' agree i d t = agree i (omega arith) t ∙ beside i (λ z. omega arith)

      other : (i : ℕ) → (i < p) ⊎ (q ≤ i) → get_or s''.plan i 0 ≡ get_or s.plan i 0
      other i (inl u) = beside i (λ z. omega arith) ∙ P.kept i (inl (omega arith))
      other i (inr u) = beside i (λ z. omega arith) ∙ P.kept i (inr u)

      same_row : (i : ℕ) {a b m : ℕ} → a ≡ b → (i < m) ⊎ (a ≤ i) → (i < m) ⊎ (b ≤ i)
      same_row i j (inl u) = inl u
      same_row i j (inr u) = inr (omega arith)
