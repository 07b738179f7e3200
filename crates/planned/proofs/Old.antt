-- The equations of a node one after another: those written so far, and those left.
-- Assumes nothing.
use Prim.Native.Nat.{ℕ, suc, ◌+◌, ◌-◌, ◌≤◌, ◌<◌}
use mathlib.Core.Path.{◌≡◌, refl, sym, ◌∙◌, ap, subst}
use mathlib.Core.List.{List, [], ◌∷◌, map}
use mathlib.Core.Option.{Option, none, some}
use native.Mathlib.Omega.{arith}
use lib.ListN.{length}
use Rattle.definitions.specs.declared.Token.{Token}
use Rattle.definitions.specs.Lists.{or_else, join}
use Rattle.definitions.specs.Tree.{TypeDef, Equation, Node}
use Rattle.definitions.specs.Clock.{Clock}
use Rattle.definitions.specs.InferClocks.{Clocked, Fault}
use Rattle.definitions.specs.Output.{equation_tokens}
use Rattle.stateless.specs.Yield.{Ids, right_yield, old_yield}
use Rattle.stateless.specs.Faults.{right_fault, at_equation, old_fault}
use Rattle.emit.specs.declared.output.Output.{Output}
use Rattle.emit.specs.Out.{emits}
use Rattle.emit.proofs.Laws.{emits-append, emits_none}
use Rattle.planned.specs.Writes.{Writer}
use Rattle.planned.specs.Planned.{EquationPlanned, EquationsPlanned}

first-faultless : (types : List TypeDef) (nodes : List Node) (node : Node) (k i : ℕ) (e : Clocked) (es : List Clocked) → old_fault types nodes node k i (e ∷ es) ≡ none →
    (right_fault types nodes node k e.clock e.equation.left e.equation.right ≡ none) × (old_fault types nodes node k (suc i) es ≡ none)
unfolding old_fault
first-faultless types nodes node k i e es h = go (right_fault types nodes node k e.clock e.equation.left e.equation.right) h
  where
    go : (o : Option Fault) → or_else (at_equation types nodes node i o) (old_fault types nodes node k (suc i) es) ≡ none → (o ≡ none) × (old_fault types nodes node k (suc i) es ≡ none)
    go none j = (refl, j)
    go (some f) j = absurd cc

module _ (M : ℕ) (gs vs : List ℕ) (W : Writer) (plan : List ℕ) (ids : Ids) where
  -- the tokens of equations, n holds being there before
  abbrev old : ℕ → List Clocked → List Token
  old n cs = join (map equation_tokens (old_yield W.types W.nodes W.node ids n cs).value)

  -- so many equations are left at this place, and the others are written
  pub record Left (whole o : Output) (count place q : ℕ) : Type 0 where
    pub rest : List Clocked
    pub holds : ℕ
    pub number : ℕ
    pub stand : EquationsPlanned M gs vs W plan W.condact ids holds rest place q
    pub many : length rest ≡ count
    pub faultless : old_fault W.types W.nodes W.node W.condact number rest ≡ none
    pub same : whole ≡ emits o (old holds rest)

  pub left-all : (cs : List Clocked) (o : Output) (count place q : ℕ) → old_fault W.types W.nodes W.node W.condact 0 cs ≡ none → length cs ≡ count → EquationsPlanned M gs vs W plan W.condact ids 0 cs place q →
      Left (emits o (old 0 cs)) o (count - 0) place q
  left-all cs o count place q f n h = record { rest = cs; holds = 0; number = 0; stand = h; many = omega arith; faultless = f; same = refl }

  pub left-none : (whole o : Output) (count i place q : ℕ) → count ≤ i → Left whole o (count - i) place q → o ≡ whole
  unfolding old_yield
  left-none whole o count i place q z d = go d.rest d.many d.same
    where
      go : (cs : List Clocked) → length cs ≡ count - i → whole ≡ emits o (old d.holds cs) → o ≡ whole
      go [] n e = sym (e ∙ emits_none o)
      go (c ∷ cs) n e = absurd (omega arith)

  pub left-more : (whole o o₁ : Output) (count i place q end : ℕ) → i < count → Left whole o (count - i) place q →
      ((n : ℕ) (c : Clock) (e : Equation) (s : ℕ) → right_fault W.types W.nodes W.node W.condact c e.left e.right ≡ none → EquationPlanned M gs vs W plan W.condact ids n c e place s →
      (o₁ ≡ emits o (equation_tokens (record { left = e.left; right = (right_yield W.types W.nodes W.node ids c e.left n e.right).value }))) × (end ≡ s)) →
      Left whole o₁ (count - (i + 1)) end q
  unfolding old_yield EquationsPlanned
  left-more whole o o₁ count i place q end some_left d f = go d.rest d.stand d.many d.faultless d.same
    where
      go : (cs : List Clocked) → EquationsPlanned M gs vs W plan W.condact ids d.holds cs place q → length cs ≡ count - i → old_fault W.types W.nodes W.node W.condact d.number cs ≡ none → whole ≡ emits o (old d.holds cs) →
          Left whole o₁ (count - (i + 1)) end q
      go [] h n k e = absurd (omega arith)
      go (c ∷ cs) h n k e =
          let b = first-faultless W.types W.nodes W.node W.condact d.number c cs k in
          let w = f d.holds c.clock c.equation h.0 b.0 h.1 in
          let a = right_yield W.types W.nodes W.node ids c.clock c.equation.left d.holds c.equation.right in
          record {
            rest = cs;
            holds = a.after;
            number = suc d.number;
            stand = subst (λ (p : ℕ). EquationsPlanned M gs vs W plan W.condact ids a.after cs p q) (sym w.1) h.2;
            many = omega arith;
            faultless = b.1;
            same = e ∙ (sym (emits-append o (equation_tokens (record { left = c.equation.left; right = a.value })) (old a.after cs)) ∙ ap (λ (x : Output). emits x (old a.after cs)) (sym w.0));
          }
