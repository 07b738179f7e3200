-- What accepting says of a sheet: its names are its own, each node has clocks and no fault, and the output keeps names, kinds and ports.
use mathlib.Core.Path.{◌≡◌, refl, sym, ap, ◌∙◌, subst, subst⁻¹}
use mathlib.Core.Bool.{Bool, true, false, true≢false}
use mathlib.Core.List.Memᴰ
use mathlib.Core.List.{List, [], ◌∷◌, ◌++◌, map, cons≢nil, Memᴰ}
use mathlib.Core.Option.{Option, none, some, some-injective}
use Prim.Native.Nat.{ℕ, suc}
use lib.Dec.{eqb}
use Rattle.definitions.specs.declared.Refusal.{Refusal}
use Rattle.definitions.specs.declared.FaultRecord.{FaultRecord}
use Rattle.definitions.specs.Lists.{choose, find, join, numbered, Letters}
use Rattle.definitions.specs.Tree.{Expr, Exprs, Equation, Node, Sheet}
use Rattle.definitions.specs.Clock.{Clock, base}
use Rattle.definitions.specs.InferClocks.{Formed, deep, formed, NodeFault, Clocking, clocking, clock_faults, uses_clocks}
use Rattle.definitions.specs.Declock.{State, Rewritten, stopped, done, is_operator_kind, new_locals, with_new}
use Rattle.definitions.specs.Refusals.{Answer, accepted, refused, ◌>>=◌}
use Rattle.definitions.specs.Output.{letters_of, new_id, ClockedNode, rewritten, stopped_at, node_faults, output_node}
use Rattle.definitions.specs.Answer.{Input, clockings, first_of}
use Rattle.shapes.specs.Shape.{Shaped, Shapeds}
use Rattle.shapes.proofs.Accepts.{Accepts, no-refused, accepts, accepts-after}
use Rattle.runs.specs.Callees.{is_operator}
use Rattle.runs.specs.Run.{seen, on, Kept}
use Rattle.runs.specs.Plain.{Part, reads, callee, computes}
use Rattle.runs.specs.Demand.{PortsKept}
use Rattle.runs.proofs.Facts.{All}
use Rattle.runs.proofs.Parts.{Each, Eachs, EachOf, each_all}
use Rattle.runs.proofs.Growth.{Reads}
use Rattle.runs.proofs.Inferred.{Clockings, placed}
use Rattle.runs.proofs.Declared.{port-declared}
use Rattle.runs.proofs.PlainNode.{Within}

-- the parts of a shaped expression are within the names
module _ (m : ℕ) where
  mutual
    unfolding Each Shaped

    pub within : (e : Expr) → Shaped m e → Each (Within m) e
    within (Expr.const l w) h = tt
    within (Expr.var x) h = h
    within (Expr.op g es) h = (tt, withins es h.1)
    within (Expr.pre e) h = within e h
    within (Expr.arrow a b) h = (within a h.0, within b h.1)
    within (Expr.call f es) h = (h.1, withins es h.0)
    within (Expr.when k e) h = (h.1, within e h.0)
    within (Expr.merge x a b) h = (h.2, within a h.0, within b h.1)

    withins : (es : Exprs) → Shapeds m es → Eachs (Within m) es
    withins Exprs.end h = tt
    withins (Exprs.and e es) h = (within e h.0, withins es h.1)

-- each node has its clocks, in order
abbrev pub Formings : List Node → List ClockedNode → Type 0
Formings ns cs = (map (λ n. n.node) cs ≡ ns) × All (λ n. clocking n.node ≡ formed n.clocking) cs

pub formings : (i : ℕ) (ns : List Node) → Accepts (Formings ns) (clockings i ns)
unfolding clockings
formings i [] = accepts (refl, λ n m. absurd (Memᴰ.not-nil m))
formings i (n ∷ ns) = go (clocking n) refl (formings (suc i) ns)
  where
    both : (k : Clocking) → clocking n ≡ formed k → (cs : List ClockedNode) → Formings ns cs → Formings (n ∷ ns) (record { node = n; clocking = k } ∷ cs)
    both k e cs f = (ap (λ (l : List Node). n ∷ l) f.0, each)
      where
        each : All (λ n. clocking n.node ≡ formed n.clocking) (record { node = n; clocking = k } ∷ cs)
        each c (Memᴰ.head q) = subst⁻¹ (λ (z : ClockedNode). clocking z.node ≡ formed z.clocking) q e
        each c (Memᴰ.tail m) = f.1 c m

    go : (u : Formed Clocking) → clocking n ≡ u → Accepts (Formings ns) (clockings (suc i) ns)
        → Accepts (Formings (n ∷ ns)) (elim u as (λ x. Answer (List ClockedNode)) [ deep ↦ refused (Refusal.Deep i) | formed k ↦ (clockings (suc i) ns >>= λ rest. accepted (record { node = n; clocking = k } ∷ rest)) ])
    go deep e h = no-refused
    go (formed k) e h = accepts-after _ h (λ cs q. accepts (both k e cs q))

module _ (r : Input) where
  abbrev pub faults-of : ClockedNode → List NodeFault
  unfolding node_faults
  faults-of n = node_faults r.names r.sheet n

  pub no-faults : (i : ℕ) (ns : List ClockedNode) → join (numbered (λ i n. first_of i (faults-of n)) i ns) ≡ [] → All (λ n. faults-of n ≡ []) ns
  no-faults i (m ∷ ns) h n j = go (faults-of m) refl h j (no-faults (suc i) ns)
    where
      rest : List FaultRecord
      rest = join (numbered (λ i n. first_of i (faults-of n)) (suc i) ns)

      at : faults-of m ≡ [] → rest ≡ [] → (rest ≡ [] → All (λ n. faults-of n ≡ []) ns) → Memᴰ n (m ∷ ns) → faults-of n ≡ []
      at e q ih (Memᴰ.head z) = subst⁻¹ (λ (c : ClockedNode). faults-of c ≡ []) z e
      at e q ih (Memᴰ.tail k) = ih q n k

      go : (l : List NodeFault) → faults-of m ≡ l → first_of i l ++ rest ≡ [] → Memᴰ n (m ∷ ns) → (rest ≡ [] → All (λ n. faults-of n ≡ []) ns) → faults-of n ≡ []
      go [] e q j ih = at e q ih j
      go (f ∷ fs) e q j ih = absurd (cons≢nil q)
  no-faults i [] h n j = absurd (Memᴰ.not-nil j)

  -- a node without faults has no clock fault, and, where it uses clocks, its rewriting is done
  pub faultless : (n : ClockedNode) → faults-of n ≡ []
      → (clock_faults n.clocking.findings ≡ []) × (uses_clocks n.node ≡ true → (es : List Equation) × (S : State) × (rewritten r.names r.sheet r.names n ≡ done es S))
  unfolding node_faults faults-of
  faultless n = go (clock_faults n.clocking.findings) refl (rewritten r.names r.sheet r.names n) refl
    where
      Done : Type 0
      Done = (es : List Equation) × (S : State) × (rewritten r.names r.sheet r.names n ≡ done es S)

      one : Option NodeFault → List NodeFault
      one o = elim o as (λ x. List NodeFault) [ none ↦ [] | some f ↦ f ∷ [] ]

      stops : (u : Bool) (f : NodeFault) → one (choose u (some f) none) ≡ [] → u ≡ true → Done
      stops true f h e = absurd (cons≢nil h)
      stops false f h e = absurd (true≢false (sym e))

      go : (l : List NodeFault) → clock_faults n.clocking.findings ≡ l → (w : Rewritten (List Equation)) → rewritten r.names r.sheet r.names n ≡ w
          → ◌≡◌ {A = List NodeFault} (elim l as (λ x. List NodeFault) [ [] ↦ one (choose (uses_clocks n.node) (stopped_at r.names r.sheet w) none) | f ∷ rest ↦ f ∷ rest ]) [] → (clock_faults n.clocking.findings ≡ []) × (uses_clocks n.node ≡ true → Done)
      go [] e (stopped f) q h = (e, stops (uses_clocks n.node) f h)
      go [] e (done es S) q h = (e, λ u. (es, S, q))
      go (f ∷ rest) e w q h = absurd (cons≢nil h)

-- the node of the output keeps its name, kind and ports
module _ (names : List Letters) (s : Sheet) (all : List Letters) (n : ClockedNode) where
  pub record SameFace (m : Node) : Type 0 where
    pub name : m.name ≡ n.node.name
    pub kind : m.kind ≡ n.node.kind
    pub inputs : m.inputs ≡ n.node.inputs
    pub outputs : m.outputs ≡ n.node.outputs

  pub same-face : SameFace (output_node names s all n)
  unfolding output_node with_new
  same-face = go (uses_clocks n.node) (rewritten names s all n)
    where
      same : SameFace n.node
      same = record { name = refl; kind = refl; inputs = refl; outputs = refl }

      go : (u : Bool) (w : Rewritten (List Equation))
          → SameFace (choose u (elim w as (λ x. Node) [ stopped f ↦ n.node | done es S ↦ with_new (new_id names all n.node) n.node (new_locals (letters_of names) (new_id names all n.node) S) es ]) n.node)
      go false w = same
      go true (stopped f) = same
      go true (done es S) = record { name = refl; kind = refl; inputs = refl; outputs = refl }

-- so that the output has the same operators
module _ (names : List Letters) (s : Sheet) (all : List Letters) (f : ℕ) where
  is_op : Option Node → Bool
  is_op u = elim u as (λ x. Bool) [ none ↦ false | some n ↦ is_operator_kind n.kind ]

  pub same-operator : (ns : List ClockedNode) → is_operator (map (output_node names s all) ns) f ≡ is_operator (map (λ n. n.node) ns) f
  unfolding is_operator is_op
  same-operator [] = refl
  same-operator (n ∷ ns) =
      let m : Node = output_node names s all n in
      let face = same-face names s all n in
      ap (λ (z : ℕ). is_op (choose (eqb z f) (some m) (find (λ n. eqb n.name f) (map (output_node names s all) ns)))) face.name ∙ go (eqb n.node.name f) m face.kind (same-operator ns)
    where
      go : (u : Bool) (m : Node) → m.kind ≡ n.node.kind
          → is_op (find (λ n. eqb n.name f) (map (output_node names s all) ns)) ≡ is_op (find (λ n. eqb n.name f) (map (λ n. n.node) ns))
          → is_op (choose u (some m) (find (λ n. eqb n.name f) (map (output_node names s all) ns))) ≡ is_op (choose u (some n.node) (find (λ n. eqb n.name f) (map (λ n. n.node) ns)))
      go true m e ih = ap is_operator_kind e
      go false m e ih = ih

-- ports are on base, so that they are kept at every tick
pub ports-kept : (Val : Type 0) (n : ClockedNode) → Clockings n.node n.clocking → PortsKept Val n
unfolding PortsKept Kept on
ports-kept Val n c M ticks ρ ρ' h x t p l = h x t l (port-declared n.node x p) (λ d e. subst (λ (z : Clock). on M (seen M n.node ρ) z t ≡ true) (some-injective base d (sym ((placed (λ x. Unit {0}) n.node n.clocking c reads-any).based x p) ∙ e)) refl)
  where
    reads-any : EachOf (Reads (λ x. Unit {0})) n.node.equations
    reads-any e m = each_all (Reads (λ x. Unit {0})) w e.right
      where
        w : (p : Part) → Reads (λ x. Unit {0}) p
        w (reads x) = tt
        w (callee f) = tt
        w (computes h) = tt
