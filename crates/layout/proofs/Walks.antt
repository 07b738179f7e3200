-- Laws of walks over names with their types and nodes. Assumes nothing.
use Rattle.std.specs.Prelude.{Option, Some, None}
use Rattle.std.specs.Option.{IsSomeAnd}
use mathlib.Core.Path.{◌≡◌, refl, sym, ◌∙◌, ap}
use mathlib.Core.List.{List, [], ◌∷◌}
use Prim.Native.Nat.{ℕ, zero, suc, ◌-◌}
use native.Mathlib.Omega.{arith}
use native.Mathlib.Numerals.{sub-one}
use Rattle.definitions.specs.declared.Refusal.{Refusal}
use Rattle.definitions.specs.Tokens.{TagValue}
use Rattle.definitions.specs.Tree.{Ty, Declared, Node}
use Rattle.definitions.specs.Reading.{Got, got, rejected, times}
use Rattle.definitions.specs.Grammar.{name, ty, declaration, node}
use Rattle.grammar.specs.declared.source.Source.{Source}
use Rattle.grammar.specs.Read.{tokens_of}
use Rattle.grammar.proofs.Got.{declaration-got, times-nil, times-cons}
use Rattle.layout.specs.declared.DeclarationLayout.{DeclarationLayout}
use Rattle.layout.specs.declared.NodeLayout.{NodeLayout}
use Rattle.layout.specs.declared.walk.Nodes.{Nodes}
use Rattle.layout.specs.Laid.{LaidDeclaration, LaidNode}
use Rattle.layout.specs.Walk.{layouts_in, LaidAll, all-laid, laid-before, GivesNode, NodesLeft}

some_not_none : {A : Type 0} {r : Option A} {a : A} → r ≡ Some a → r ≡ None → ⊥
some_not_none {A} {r} {a} i j = let z : ◌≡◌ {A = Option A} (Some a) None = sym i ∙ j in cc

module _ (M : ℕ) (ts : List TagValue) where
  -- the first, and those behind it
  pub layouts-first : (n p : ℕ) (d : Declared) (q : ℕ) (l : DeclarationLayout) → LaidDeclaration M ts p d q l → layouts_in M ts (suc n) p ≡ l ∷ layouts_in M ts n l.end
  unfolding layouts_in
  layouts-first n p d q l h = rw (h.label, h.typed, h.named, h.ends) refl

  -- none, where the first is refused
  pub layouts-refused : (n p : ℕ) (r : Refusal) → declaration M ts p ≡ rejected r → layouts_in M ts (suc n) p ≡ []
  unfolding layouts_in declaration
  layouts-refused n p r g = go (name M ts p) refl
    where
      go : (x : Got ℕ) → name M ts p ≡ x → layouts_in M ts (suc n) p ≡ []
      go (rejected f) e = rw e refl
      go (got x t) e = typed (ty M 8 ts t) refl
        where
          typed : (y : Got Ty) → ty M 8 ts t ≡ y → layouts_in M ts (suc n) p ≡ []
          typed (rejected f) i = rw (e, i) refl
          typed (got a q) i = let z : ◌≡◌ {A = Got Declared} (got (record { name = x; type = a }) q) (rejected r) = rw (e, i) at g in cc

  -- what a walk's step gives: the first with those behind it, or none
  module _ (n m p : ℕ) (many : n ≡ suc m) (r : Option DeclarationLayout) (read : (d : Declared) (q : ℕ) → declaration M ts p ≡ got d q → IsSomeAnd r (LaidDeclaration M ts p d q)) where
    pub layouts-step : (l : DeclarationLayout) → r ≡ Some l → ((f : Refusal) → declaration M ts p ≡ rejected f → r ≡ None) → layouts_in M ts n p ≡ l ∷ layouts_in M ts m l.end
    layouts-step l i refused = rw many (go (declaration M ts p) refl)
      where
        go : (x : Got Declared) → declaration M ts p ≡ x → layouts_in M ts (suc m) p ≡ l ∷ layouts_in M ts m l.end
        go (got d q) e = layouts-first m p d q l (rw i at (read d q e))
        go (rejected f) e = absurd (some_not_none i (refused f e))

    pub layouts-end : r ≡ None → layouts_in M ts n p ≡ []
    layouts-end i = rw many (go (declaration M ts p) refl)
      where
        go : (x : Got Declared) → declaration M ts p ≡ x → layouts_in M ts (suc m) p ≡ []
        go (got d q) e = absurd (rw i at (read d q e))
        go (rejected f) e = layouts-refused m p f e

  -- names with their types that were read are laid, each of them
  pub laid-all : (n p : ℕ) (ds : List Declared) (q : ℕ) → times n (declaration M) ts p ≡ got ds q → LaidAll M ts ds (layouts_in M ts n p)
  unfolding layouts_in
  laid-all zero p ds q g = let e = times-nil (declaration M) ts 0 p ds q refl g in rw e.0 all-laid
  laid-all (suc n) p ds q g =
      let t = times-cons (declaration M) ts (suc n) p ds q (λ z. omega arith) g in
      let b = declaration-got M ts p t.0 t.1 t.3 in
      let l : DeclarationLayout = record { name = t.0.name; type_at = b.1; end = t.1 } in
      let h : LaidDeclaration M ts p t.0 t.1 l = record {
        named = refl;
        label = b.3 ∙ ap (λ (y : Declared). got y.name b.1) (sym b.5);
        typed = b.4 ∙ ap (λ (y : Declared). got y.type t.1) (sym b.5);
        ends = refl;
      } in
      rw (t.5, layouts-first n p t.0 t.1 l h) (laid-before h (laid-all n t.1 t.2 q (rw (sub-one (suc n)) at t.4)))

-- the first that a walk has to give is laid, and so are those behind it; where it has none, there are none
pub record FirstLaid (M : ℕ) (ts : List TagValue) (ds : List Declared) (l : DeclarationLayout) (ls : List DeclarationLayout) : Type 0 where
  pub first : Declared
  pub rest : List Declared
  pub from : ℕ
  pub to : ℕ
  pub laid : LaidDeclaration M ts from first to l
  pub others : LaidAll M ts rest ls
  pub whole : ds ≡ first ∷ rest

module _ {M : ℕ} {ts : List TagValue} where
  pub first-laid : {ds : List Declared} {l : DeclarationLayout} {ls : List DeclarationLayout} → LaidAll M ts ds (l ∷ ls) → FirstLaid M ts ds l ls
  first-laid (laid-before {p} {q} {d} {ds = ds} h a) = record { first = d; rest = ds; from = p; to = q; laid = h; others = a; whole = refl }

  pub none-laid : {ds : List Declared} → LaidAll M ts ds [] → ds ≡ []
  none-laid all-laid = refl

-- what a walk over nodes gives: the first that is left; where it gives none, none is
pub record FirstNode (source : Source) (ns : List Node) (q : ℕ) (s : Nodes) (l : NodeLayout) (t : Nodes) : Type 0 where
  pub first : Node
  pub rest : List Node
  pub to : ℕ
  pub read : node source.names (tokens_of source) s.at ≡ got first to
  pub laid : LaidNode source.names (tokens_of source) first to l
  pub others : NodesLeft source rest q t
  pub whole : ns ≡ first ∷ rest

pub nodes-begin : {source : Source} {ns : List Node} {q : ℕ} {s : Nodes} → s.source ≡ source → (n p : ℕ) → s.left ≡ n → s.at ≡ p → times n (node source.names) (tokens_of source) p ≡ got ns q → NodesLeft source ns q s
nodes-begin e n p i j g = record { same = e; reads = rw (i, j) g }

module _ {source : Source} {ns : List Node} {q : ℕ} {s : Nodes} (h : NodesLeft source ns q s) where
  pub first-node : {t : Nodes} {l : NodeLayout} → GivesNode s (Some l) t → FirstNode source ns q s l t
  unfolding GivesNode
  first-node {t} {l} g =
      let c = times-cons (node source.names) (tokens_of source) s.left s.at ns q (λ z. omega (arith, z, g.0)) h.reads in
      let r : node s.source.names (tokens_of s.source) s.at ≡ got c.0 c.1 = rw h.same c.3 in
      let d : LaidNode source.names (tokens_of source) c.0 c.1 l = rw h.same at (g.3 c.0 c.1 r) in
      let n : t.left ≡ s.left - 1 = omega (arith, g.0) in
      let p : t.at ≡ c.1 = g.2 ∙ d.ends in
      record { first = c.0; rest = c.2; to = c.1; read = c.3; laid = d; others = nodes-begin (g.1 ∙ h.same) (s.left - 1) c.1 n p c.4; whole = c.5 }

  pub no-node : (t : Nodes) → GivesNode s None t → (ns ≡ []) × (q ≡ s.at)
  unfolding GivesNode
  no-node t g = times-nil (node source.names) (tokens_of source) s.left s.at ns q g.0 h.reads
