-- Whether one of a sheet's nodes uses clocks, node after node.
-- Assumes nothing.
use Rattle.std.specs.Prelude.{Option, None, Some}
use Rattle.std.specs.Iterator.{Yields}
use Rattle.std.specs.List.{FoldsTo}
use Rattle.std.specs.Fn.{Mut, Called}
use Rattle.std.specs.Option.{MatchOption}
use mathlib.Core.Path.{◌≡◌, refl, sym, ◌∙◌, ap, subst}
use mathlib.Core.List.{List, [], ◌∷◌}
use mathlib.Core.Bool.{Bool, true, false, ◌||◌}
use Prim.Native.Nat.{ℕ}
use Rattle.definitions.specs.Lists.{any}
use Rattle.definitions.specs.Tree.{Node}
use Rattle.definitions.specs.InferClocks.{uses_clocks}
use Rattle.grammar.specs.declared.source.Source.{Source}
use Rattle.grammar.specs.Read.{tokens_of}
use Rattle.layout.specs.declared.NodeLayout.{NodeLayout}
use Rattle.layout.specs.declared.walk.Nodes.{Nodes}
use Rattle.layout.specs.Laid.{LaidNode}
use Rattle.layout.specs.Walk.{GivesNode, NodesLeft}
use Rattle.layout.proofs.Walks.{first-node, no-node}

-- the nodes that a walk has left tell what v is
pub record LeftTell (source : Source) (s : Nodes) (v : Bool) : Type 0 where
  pub rest : List Node
  pub end : ℕ
  pub left : NodesLeft source rest end s
  pub same : any uses_clocks rest ≡ v

module _ (source : Source) (s : Nodes) (v : Bool) (h : LeftTell source s v) (t : Nodes) where
  left_end : GivesNode s None t → false ≡ v
  left_end g = ap (any uses_clocks) (sym (no-node h.left t g).0) ∙ h.same

  -- the next node, whose layout tells b
  module _ (l : NodeLayout) (g : GivesNode s (Some l) t) (b : Bool) (E : (n : Node) (q : ℕ) → LaidNode source.names (tokens_of source) n q l → b ≡ uses_clocks n) where
    left-used : b ≡ true → true ≡ v
    left-used j =
        let f = first-node h.left g in
        let x : uses_clocks f.first ≡ true = sym (E f.first f.to f.laid) ∙ j in
        ap (λ (y : Bool). y || any uses_clocks f.rest) (sym x) ∙ (ap (any uses_clocks) (sym f.whole) ∙ h.same)

    left_step : b ≡ false → LeftTell source t v
    left_step j =
        let f = first-node h.left g in
        let x : uses_clocks f.first ≡ false = sym (E f.first f.to f.laid) ∙ j in
        record { rest = f.rest; end = _; left = f.others; same = ap (λ (y : Bool). y || any uses_clocks f.rest) (sym x) ∙ (ap (any uses_clocks) (sym f.whole) ∙ h.same) }

-- `any` over a walk, whose question f tells whether a node uses clocks
module _ (source : Source) {F : Type 0} {g : Mut F (NodeLayout × Unit {0}) Bool} (f : F)
    (K : (l : NodeLayout) (b : Bool) (h : F) → Called g f (l, tt) b h → (h ≡ f) × ((n : Node) (q : ℕ) → LaidNode source.names (tokens_of source) n q l → b ≡ uses_clocks n)) where
  pub any-left : (ls : List NodeLayout) (s t u : Nodes) (o : Option NodeLayout) (j : F) (r v : Bool) → LeftTell source s v → Yields GivesNode s ls t → GivesNode t o u → FoldsTo (λ p l h. Called g p (l, tt) false h) f ls j →
      MatchOption o (r ≡ false) (λ l. (r ≡ true) × ((h : F) × Called g j (l, tt) true h)) → r ≡ v
  any-left [] s t u None j r v w y n e m = m ∙ left_end source s v w u (subst (λ (x : Nodes). GivesNode x None u) (sym y) n)
  any-left [] s t u (Some l) j r v w y n e m =
      let k = K l true m.1.0 (subst (λ (x : F). Called g x (l, tt) true m.1.0) (sym e) m.1.1) in
      m.0 ∙ left-used source s v w u l (subst (λ (x : Nodes). GivesNode x (Some l) u) (sym y) n) true k.1 refl
  any-left (l ∷ ls) s t u o j r v w y n e m =
      let k = K l false e.0 e.1 in
      any-left ls y.0 t u o j r v (left_step source s v w y.0 l y.1 false k.1 refl) y.2 n (subst (λ (x : F). FoldsTo (λ p l h. Called g p (l, tt) false h) x ls j) k.0 e.2) m
