-- The declared names of a node are its ports and its locals; left names are among those that equations define.
use mathlib.Core.Path.{◌≡◌, sym, ap, ◌∙◌, subst, subst⁻¹}
use mathlib.Core.Bool.{true}
use mathlib.Core.List.Memᴰ
use mathlib.Core.List.{List, ◌++◌, map-append, append_assoc, Memᴰ}
use mathlib.Core.Logic.{◌⊎◌, inl, inr}
use Prim.Native.Nat.{ℕ}
use Rattle.definitions.specs.Tree.{Equation, Node}
use Rattle.definitions.specs.InferClocks.{is_port, ports}
use Rattle.definitions.specs.Declock.{declared}
use Rattle.runs.specs.Callees.{is_declared}
use Rattle.runs.specs.Plain.{lefts, names_of}
use Rattle.runs.proofs.Facts.{any_of, of-any}

-- a left name of an equation is among the left names
pub in-lefts : (e : Equation) (es : List Equation) → Memᴰ e es → (x : ℕ) → Memᴰ x e.left → Memᴰ x (lefts es)
in-lefts e es (Memᴰ.head {x = d} {xs = r} q) x i = Memᴰ.append_left (lefts r) (subst (λ (z : Equation). Memᴰ x z.left) q i)
in-lefts e es (Memᴰ.tail {x = d} {xs = r} j) x i = Memᴰ.append_right d.left (in-lefts e r j x i)

module _ (node : Node) where
  -- outputs and locals are declared, and so are ports
  pub declared-later : (x : ℕ) → Memᴰ x (names_of (node.outputs ++ node.locals)) → is_declared node x ≡ true
  declared-later x i = any_of x (names_of (declared node)) (subst⁻¹ (Memᴰ x) (map-append (λ d. d.name) node.inputs (node.outputs ++ node.locals)) (Memᴰ.append_right (names_of node.inputs) i))

  -- the declared names are the ports and the locals
  declared-split : names_of (declared node) ≡ ports node ++ names_of node.locals
  declared-split = ap names_of (sym (append_assoc node.inputs node.outputs node.locals)) ∙ map-append (λ d. d.name) (node.inputs ++ node.outputs) node.locals

  pub declared-cases : (x : ℕ) → is_declared node x ≡ true → (is_port node x ≡ true) ⊎ Memᴰ x (names_of node.locals)
  declared-cases x d = cases (Memᴰ.append_cases (ports node) (subst (Memᴰ x) declared-split (of-any x (names_of (declared node)) d)))
    where
      cases : Memᴰ x (ports node) ⊎ Memᴰ x (names_of node.locals) → (is_port node x ≡ true) ⊎ Memᴰ x (names_of node.locals)
      cases (inl i) = inl (any_of x (ports node) i)
      cases (inr i) = inr i

  pub port-declared : (x : ℕ) → is_port node x ≡ true → is_declared node x ≡ true
  port-declared x h = any_of x (names_of (declared node)) (subst⁻¹ (Memᴰ x) declared-split (Memᴰ.append_left (names_of node.locals) (of-any x (ports node) h)))
