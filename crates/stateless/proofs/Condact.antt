-- The id of `condact` may differ between the input's names and the output's: no fault and no need depends on it, as every id of the input
-- is of `condact` in both or in neither. `same-condact`, `sheet-fault`.
use Prim.Native.Nat.{ℕ, zero, suc, ◌<◌}
use mathlib.Core.Path.{◌≡◌, refl, sym, ap, ◌∙◌, subst}
use mathlib.Core.List.{List, [], ◌∷◌, ◌++◌, Memᴰ}
use mathlib.Core.Bool.{Bool, true, false}
use mathlib.Core.Option.{Option, none, some}
use native.Mathlib.Omega.{arith}
use lib.Dec.{eqb, eqb_refl, eqb-zero-suc, eqb-suc-suc}
use lib.ListN.{length}
use Rattle.definitions.specs.declared.Refusal.{Refusal}
use Rattle.definitions.specs.Lists.{choose, or_else, place_by, Letters, same_letters, bytes}
use Rattle.definitions.specs.Tree.{Declared, TypeDef, Expr, Node, Sheet}
use Rattle.definitions.specs.Clock.{Clock, parent, is_base}
use Rattle.definitions.specs.InferClocks.{Fault, Formed, deep, formed, Clocked, Clocking, clocking}
use Rattle.definitions.specs.Declock.{Shape, bare, other, calls}
use Rattle.definitions.specs.Refusals.{Answer, accepted, refused, ◌>>=◌}
use Rattle.definitions.specs.Output.{condact_id, ClockedNode, names_out}
use Rattle.definitions.specs.Answer.{Input, input, clockings}
use Rattle.shapes.specs.Shape.{Bytes, Shaped, ShapedEquation, ShapedNode}
use Rattle.shapes.proofs.Facts.{All, all_nil, all_cons, of_T, Goes}
use Rattle.shapes.proofs.Accepts.{Accepts, accepts, no-refused, accepts-after, is-accepted}
use Rattle.shapes.proofs.Source.{read-facts}
use Rattle.shapes.proofs.Inference.{Forms}
use Rattle.shapes.proofs.ClockNames.{NamedEquation, clocking-named}
use Rattle.shapes.proofs.Names.{goes-out}
use Rattle.stateless.specs.Need.{Needs, needed}
use Rattle.stateless.specs.Yield.{gate_of, shape_after}
use Rattle.stateless.specs.Faults.{fault_in, lefts_fault, several_fault, flagged_fault, right_fault, old_fault}
use Rattle.stateless.specs.Whole.{no_needs, several_needs, flagged_needs, right_needs, old_needs}
use Rattle.stateless.proofs.Stops.{fault_of}

-- whether a place in a list is that of the first item that passes a test does not depend on what follows the list
same_place : {A : Type 0} (p : A → Bool) (l r : List A) (i : ℕ) → i < length l → eqb i (place_by p (l ++ r)) ≡ eqb i (place_by p l)
same_place p [] r i h = absurd (omega arith)
same_place p (a ∷ l) r zero h = go (p a)
  where
    go : (u : Bool) → eqb 0 (choose u 0 (suc (place_by p (l ++ r)))) ≡ eqb 0 (choose u 0 (suc (place_by p l)))
    go true = refl
    go false = eqb-zero-suc (place_by p (l ++ r)) ∙ sym (eqb-zero-suc (place_by p l))
same_place p (a ∷ l) r (suc i) h = go (p a) (same_place p l r i (omega arith))
  where
    go : (u : Bool) → eqb i (place_by p (l ++ r)) ≡ eqb i (place_by p l) → eqb (suc i) (choose u 0 (suc (place_by p (l ++ r)))) ≡ eqb (suc i) (choose u 0 (suc (place_by p l)))
    go true e = refl
    go false e = eqb-suc-suc i (place_by p (l ++ r)) ∙ (e ∙ sym (eqb-suc-suc i (place_by p l)))

-- an id of some names is of `condact` whether or not more names follow
pub same-condact : (names all : List Letters) → Goes names all → (f : ℕ) → f < length names → eqb f (condact_id all) ≡ eqb f (condact_id names)
unfolding bytes
same-condact names all g f h = subst (λ (z : List Letters). eqb f (condact_id z) ≡ eqb f (condact_id names)) g.1 (same_place (same_letters (bytes "condact")) names g.0 f h)

module _ (types : List TypeDef) (nodes : List Node) (node : Node) (N k k' : ℕ) (same : (f : ℕ) → f < N → eqb f k ≡ eqb f k') where
  -- what an expression is after rewriting under either id: it calls a node with an id below N, or each its `condact`
  pub data Alike : Shape → Shape → Type 0 where
    both-bare : Alike bare bare
    both-other : Alike other other
    both-call : {f : ℕ} → f < N → Alike (calls f) (calls f)
    both-gate : Alike (calls k) (calls k')

  pub shape-alike : (e : Expr) (c : Clock) → Shaped N e → Alike (shape_after types nodes node k c e) (shape_after types nodes node k' c e)
  unfolding shape_after Shaped
  shape-alike (Expr.const l w) c h = both-other
  shape-alike (Expr.var x) c h = both-bare
  shape-alike (Expr.op o es) c h = both-other
  shape-alike (Expr.pre e) c h = both-other
  shape-alike (Expr.arrow a b) c h = both-other
  shape-alike (Expr.call f es) c h = go (gate_of types nodes node c f)
    where
      go : (o : Option (List Declared)) → Alike (elim o as (λ x. Shape) [ none ↦ calls f | some os ↦ calls k ]) (elim o as (λ x. Shape) [ none ↦ calls f | some os ↦ calls k' ])
      go none = both-call h.1
      go (some os) = both-gate
  shape-alike (Expr.when j e) c h = shape-alike e (parent c) h.0
  shape-alike (Expr.merge x a b) c h = both-other

  pub itself : eqb k k ≡ eqb k' k'
  itself = of_T (eqb k k) (eqb_refl k) ∙ sym (of_T (eqb k' k') (eqb_refl k'))

  -- faults
  several-fault : (xs : List ℕ) {u v : Shape} → Alike u v → several_fault types nodes node k xs u ≡ several_fault types nodes node k' xs v
  several-fault xs both-bare = refl
  several-fault xs both-other = refl
  several-fault xs (both-call {f} h) = ap (λ (b : Bool). choose b none (lefts_fault types nodes node xs)) (same f h)
  several-fault xs both-gate = ap (λ (b : Bool). choose b none (lefts_fault types nodes node xs)) itself

  flagged-fault : (xs : List ℕ) {u v : Shape} → Alike u v → flagged_fault types nodes node k xs u ≡ flagged_fault types nodes node k' xs v
  flagged-fault [] h = several-fault [] h
  flagged-fault (x ∷ []) h = refl
  flagged-fault (x ∷ y ∷ xs) h = several-fault (x ∷ y ∷ xs) h

  right-fault : (c : Clock) (xs : List ℕ) (e : Expr) → Shaped N e → right_fault types nodes node k c xs e ≡ right_fault types nodes node k' c xs e
  unfolding right_fault
  right-fault c xs e h = ap (λ (o : Option Fault). or_else (fault_in types nodes node c e) (choose (is_base c) none o)) (flagged-fault xs (shape-alike e c h))

  pub same-fault : (i : ℕ) (es : List Clocked) → All (λ e. ShapedEquation N e.equation) es → old_fault types nodes node k i es ≡ old_fault types nodes node k' i es
  unfolding old_fault
  same-fault i [] h = refl
  same-fault i (e ∷ es) h =
      rw (right-fault e.clock e.equation.left e.equation.right (h e (Memᴰ.head refl)).0, same-fault (suc i) es (λ d m. h d (Memᴰ.tail m)))

  -- needs
  several-needs : (c : Clock) (s : Needs) {u v : Shape} → Alike u v → several_needs k c u s ≡ several_needs k' c v s
  several-needs c s both-bare = refl
  several-needs c s both-other = refl
  several-needs c s (both-call {f} h) = rw (same f h)
  several-needs c s both-gate = rw itself

  flagged-needs : (c : Clock) (xs : List ℕ) (s : Needs) {u v : Shape} → Alike u v → flagged_needs k c xs u s ≡ flagged_needs k' c xs v s
  flagged-needs c [] s h = several-needs c s h
  flagged-needs c (x ∷ []) s h = refl
  flagged-needs c (x ∷ y ∷ xs) s h = several-needs c s h

  right-needs : (c : Clock) (xs : List ℕ) (e : Expr) (s : Needs) → Shaped N e → right_needs types nodes node k c xs e s ≡ right_needs types nodes node k' c xs e s
  unfolding right_needs
  right-needs c xs e s h = ap (λ (w : Needs). choose (is_base c) (needed nodes c e s) w) (flagged-needs c xs (needed nodes c e s) (shape-alike e c h))

  pub same-needs : (es : List Clocked) (s : Needs) → All (λ e. ShapedEquation N e.equation) es → old_needs types nodes node k es s ≡ old_needs types nodes node k' es s
  unfolding old_needs
  same-needs [] s h = refl
  same-needs (e ∷ es) s h =
      same-needs es (right_needs types nodes node k e.clock e.equation.left e.equation.right s) (λ d m. h d (Memᴰ.tail m))
      ∙ ap (old_needs types nodes node k' es) (right-needs e.clock e.equation.left e.equation.right s (h e (Memᴰ.head refl)).0)

-- what the rewriting of a node's equations needs, where `condact` has its id among these names
abbrev pub needs_of_node : Sheet → List Letters → ClockedNode → Needs
needs_of_node sheet all n = old_needs sheet.types sheet.nodes n.node (condact_id all) n.clocking.equations no_needs

-- a node whose equations have ids below N
abbrev pub Below : ℕ → ClockedNode → Type 0
Below N n = All (λ e. ShapedEquation N e.equation) n.clocking.equations

module _ (N : ℕ) where
  clockings-below : (i : ℕ) (ns : List Node) → All (ShapedNode N) ns → Accepts (All (Below N)) (clockings i ns)
  unfolding clockings
  clockings-below i [] h = accepts (all_nil (Below N))
  clockings-below i (n ∷ ns) h = go (clocking n) (clocking-named N n (h n (Memᴰ.head refl)).equations) (clockings-below (suc i) ns (λ x m. h x (Memᴰ.tail m)))
    where
      go : (u : Formed Clocking) → Forms (Unit {0}) (λ k. All (NamedEquation N) k.equations) u → Accepts (All (Below N)) (clockings (suc i) ns)
          → Accepts (All (Below N)) (elim u as (λ x. Answer (List ClockedNode)) [ deep ↦ refused (Refusal.Deep i) | formed k ↦ (clockings (suc i) ns >>= λ rest. accepted (record { node = n; clocking = k } ∷ rest)) ])
      go deep f ih = no-refused
      go (formed k) f ih = accepts-after _ ih (λ rest q. accepts (all_cons (Below N) _ rest (λ e m. (f e m).1) q))

-- the nodes of a sheet that was read have ids below the number of its names
pub nodes-below : (bytes : List ℕ) → Bytes bytes → (r : Input) → input bytes ≡ accepted r → (ns : List ClockedNode) → clockings 0 r.sheet.nodes ≡ accepted ns → All (Below (length r.names)) ns
nodes-below bytes h r e ns f = is-accepted (clockings 0 r.sheet.nodes) ns f (clockings-below (length r.names) 0 r.sheet.nodes (read-facts bytes h r e).below.nodes)

module _ (bytes : List ℕ) (are-bytes : Bytes bytes) (r : Input) (reading : input bytes ≡ accepted r) (ns : List ClockedNode) (clocks : clockings 0 r.sheet.nodes ≡ accepted ns)
    (n : ClockedNode) (member : Memᴰ n ns) where
  -- a node's fault is the same under the input's names and under the output's
  pub sheet-fault : fault_of r.sheet (names_out r.names r.sheet ns) n ≡ fault_of r.sheet r.names n
  sheet-fault =
      same-fault r.sheet.types r.sheet.nodes n.node (length r.names) _ _ (same-condact r.names _ (goes-out r.names r.sheet ns))
      0 n.clocking.equations (nodes-below bytes are-bytes r reading ns clocks n member)
