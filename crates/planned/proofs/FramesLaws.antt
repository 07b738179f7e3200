-- What stands around a right side, by what the code knows.
-- Assumes nothing.
use Prim.Native.Nat.{ℕ, ◌<◌}
use mathlib.Core.Path.{◌≡◌, sym, ◌∙◌, ap, subst}
use mathlib.Core.List.{List, [], ◌∷◌, ◌++◌}
use mathlib.Core.Option.{none}
use native.Mathlib.Omega.{arith}
use lib.ListN.{length, get_or}
use Rattle.definitions.specs.declared.ExprToken.{ExprToken}
use Rattle.definitions.specs.declared.Token.{Token}
use Rattle.definitions.specs.Lists.{join}
use Rattle.definitions.specs.Bytes.{tokens}
use Rattle.definitions.specs.Tree.{TypeDef, Node}
use Rattle.definitions.specs.Grammar.{name}
use Rattle.definitions.specs.Output.{e, expr_tokens, operand_tokens}
use Rattle.layout.specs.declared.Span.{Span}
use Rattle.layout.specs.Spans.{Spans}
use Rattle.emit.specs.declared.output.Output.{Output}
use Rattle.emit.specs.Out.{emits}
use Rattle.emit.proofs.Laws.{emits_none}
use Rattle.emit.proofs.NodePartsLaws.{after}
use Rattle.stateless.specs.Yield.{left_tree, left_trees}
use Rattle.stateless.specs.Faults.{left_fault, lefts_fault}
use Rattle.planned.proofs.LeftDefaultsLaws.{names-below}
use Rattle.planned.specs.declared.Frame.{Frame}
use Rattle.planned.specs.Framed.{lead_in, DefaultThenHeld, Defaulted, LeadOut}

-- ---- what is written before
module _ (condact n : ℕ) (f : Frame) (o : Output) where
  pub before-plain : f ≡ Frame.Plain → o ≡ emits o (lead_in condact n f)
  before-plain i = sym (emits_none o) ∙ ap (λ (x : Frame). emits o (lead_in condact n x)) (sym i)

-- ---- what is written behind
module _ (types : List TypeDef) (nodes : List Node) (node : Node) (xs : List ℕ) (l : List Token) where
  -- the left name's default and last value
  pub kept-written : (M : ℕ) (gs vs : List ℕ) → length vs ≡ length gs → (left : Span) → Spans (name M) (tokens gs vs) xs left → DefaultThenHeld types nodes node xs l → (ys : List ℕ) → ys ≡ xs → (x : ℕ) → x ≡ get_or ys 0 x → (o o₁ o₂ o₃ : Output)
      → o₁ ≡ emits o (e ExprToken.Arrow ∷ []) → (x < M → left_fault types nodes node x ≡ none → o₂ ≡ emits o₁ (expr_tokens (left_tree types nodes node x))) → o₃ ≡ emits o₂ (e ExprToken.Pre ∷ e (ExprToken.Var x) ∷ []) → o₃ ≡ emits o l
  kept-written M gs vs same left s k ys lent x i o o₁ o₂ o₃ f g h =
      let j : x ≡ k.name = i ∙ ap (λ (zs : List ℕ). get_or zs 0 x) (lent ∙ k.alone) in
      let low : x < M = subst (λ (y : ℕ). y < M) (ap (λ (zs : List ℕ). get_or zs 0 0) k.alone ∙ sym j) (names-below M gs vs same left.count left.at xs left.end s.items 0 (omega (arith, ap length k.alone))) in
      let free : left_fault types nodes node x ≡ none = rw j k.faultless in
      after o o₁ o₃ (e ExprToken.Arrow ∷ []) (expr_tokens (left_tree types nodes node x) ++ (e ExprToken.Pre ∷ e (ExprToken.Var x) ∷ [])) f (after o₁ o₂ o₃ (expr_tokens (left_tree types nodes node x)) (e ExprToken.Pre ∷ e (ExprToken.Var x) ∷ []) (g low free) h)
      ∙ ap (emits o) (ap (λ (y : ℕ). e ExprToken.Arrow ∷ (expr_tokens (left_tree types nodes node y) ++ (e ExprToken.Pre ∷ e (ExprToken.Var y) ∷ []))) j ∙ sym k.same)

  module _ (f : Frame) (out : LeadOut types nodes node f xs l) where
    pub behind-plain : (o : Output) → f ≡ Frame.Plain → o ≡ emits o l
    unfolding LeadOut
    behind-plain o i = let z : l ≡ [] = rw i at out in sym (emits_none o) ∙ ap (emits o) (sym z)

    pub behind-choice : (a : ℕ) → f ≡ Frame.Choose a → DefaultThenHeld types nodes node xs l
    unfolding LeadOut
    behind-choice a i = rw i at out

    pub behind-gate : (a : ℕ) → f ≡ Frame.Gate a → (o o₁ : Output) → (lefts_fault types nodes node xs ≡ none → o₁ ≡ emits o (join (operand_tokens (left_trees types nodes node xs)))) → o₁ ≡ emits o l
    unfolding LeadOut
    behind-gate a i o o₁ h = let d : Defaulted types nodes node xs l = rw i at out in h d.faultless ∙ ap (emits o) (sym d.same)
