-- The four ends of planning an equation: its right side meets a fault, it is on base, its flag meets a fault, or all of it is planned.
-- Assumes nothing.
use mathlib.Core.Path.{◌≡◌, refl, sym, ◌∙◌, ap, subst}
use mathlib.Core.Bool.{Bool, true, false}
use mathlib.Core.List.{List, [], ◌∷◌}
use mathlib.Core.Option.{Option, none, some}
use Prim.Native.Nat.{ℕ, suc, ◌+◌, ◌-◌, ◌*◌, ◌<◌}
use native.Mathlib.Omega.{arith}
use lib.Dec.{eqb}
use lib.ListN.{length, get_or, set}
use borrow.Author.Tests.{eq-eqb, ne_eqb}
use Rattle.definitions.specs.Lists.{choose, any}
use Rattle.definitions.specs.Bytes.{tokens}
use Rattle.definitions.specs.Tree.{TypeDef, Expr, Equation, Node}
use Rattle.definitions.specs.Reading.{got}
use Rattle.definitions.specs.Grammar.{name}
use Rattle.definitions.specs.Clock.{Clock, is_base, same_clock}
use Rattle.definitions.specs.InferClocks.{Fault}
use Rattle.definitions.specs.Declock.{Shape, bare, other, calls, clock_place, add_with_parents}
use Rattle.shapes.proofs.Added.{has-parents}
use Rattle.clock_tables.specs.Flat.{clock_in}
use Rattle.operands.specs.Spread.{tree}
use Rattle.layout.specs.declared.Span.{Span}
use Rattle.layout.specs.declared.NodeLayout.{NodeLayout}
use Rattle.layout.specs.Spans.{Spanned, Spans}
use Rattle.layout.specs.Laid.{LaidNode}
use Rattle.index.specs.Callees.{NodesStand}
use Rattle.stateless.specs.Need.{Needs, with_flag, with_gate, needed}
use Rattle.stateless.specs.Leads.{Leads}
use Rattle.stateless.specs.Yield.{shape_after}
use Rattle.stateless.specs.Faults.{fault_in, flagged_fault, right_fault}
use Rattle.stateless.specs.Whole.{several_needs, flagged_needs, right_needs}
use Rattle.skeleton.specs.Lies.{LiesAt}
use Rattle.skeleton.specs.Sites.{EquationSited}
use Rattle.skeleton.proofs.Laws.{seen_at}
use Rattle.findings.specs.declared.Fault as given
use Rattle.findings.specs.Value.{fault_of}
use Rattle.std.specs.Prelude.{Result, Ok, Err}
use Rattle.std.specs.declared.option.Option as code
use Rattle.typing.specs.After.{called_by}
use Rattle.plan.specs.Tables.{Arrays, Tables, Begun}
use Rattle.plan.specs.Planned.{Ended, tree_codes, tree_holds}
use Rattle.plan.specs.Walks.{Setting, ground_of, Known, Roomy, Site, Leaves, Walks}
use Rattle.plan.proofs.Closing.{ended_some, beside, there}
use Rattle.plan.proofs.Walk.{ended-then, ended-stop, Sized}
use Rattle.planned.specs.declared.Frame.{Frame}
use Rattle.planned.specs.Framed.{frame_in, flagged_frame, several_frame, frame_of}
use Rattle.node_plan.specs.Noted.{gates_call, gates_right, Typed, Flagged}
use Rattle.node_plan.specs.Equations.{EquationNoted, WalksEquation}
use Rattle.node_plan.proofs.Noting.{sited-on}
use Rattle.node_plan.proofs.Right.{lefts-stand, right-stands, noted}

-- ---- by the fault that is met
ended-goes : {q x : ℕ} {P : Type 0} (o : Option Fault) → o ≡ none → P → x ≡ q → Ended q (Ok x) P o
ended-goes {q} {x} {P} o i h e = subst (λ (u : Option Fault). Ended q (Ok x) P u) (sym i) (Ended.goes h (ap Ok e))

-- ---- what is needed under a flag, by whether the right side is gated
gated-needs : (b : Bool) (c : Clock) (z : Needs) → choose (choose b false true) (with_gate c z) (with_flag c z) ≡ choose b (with_flag c z) (with_gate c z)
gated-needs true c z = refl
gated-needs false c z = refl

several-needs : (k : ℕ) (c : Clock) (u : Shape) (z : Needs) → choose (gates_call k u) (with_gate c z) (with_flag c z) ≡ several_needs k c u z
several-needs k c bare z = refl
several-needs k c other z = refl
several-needs k c (calls f) z = gated-needs (eqb f k) c z

pub needs-of : (k : ℕ) (c : Clock) (n : ℕ) (xs : List ℕ) → n ≡ length xs → (u : Shape) (z : Needs) → choose (gates_right k n u) (with_gate c z) (with_flag c z) ≡ flagged_needs k c xs u z
needs-of k c n [] i u z = rw (ne_eqb n 1 (λ e. omega arith)) (several-needs k c u z)
needs-of k c n (x ∷ []) i u z = rw (eq-eqb n 1 i)
needs-of k c n (x ∷ y ∷ xs) i u z = rw (ne_eqb n 1 (λ e. omega arith)) (several-needs k c u z)

gated-flags : (b : Bool) (c : Clock) (z : Needs) → (choose b (with_gate c z) (with_flag c z)).flags ≡ add_with_parents c z.flags
gated-flags true c z = refl
gated-flags false c z = refl

-- ---- what stands around a right side, by the equation's word
frame-plain : (F : List ℕ) (n w : ℕ) → w ≡ 0 → frame_in F n w ≡ Frame.Plain
frame-plain F n w i = rw i

frame_row : (F : List ℕ) (n w m : ℕ) → w ≡ suc m → frame_in F n w ≡ choose (eqb n 1) (Frame.Choose (get_or F m 0)) (Frame.Gate (get_or F m 0))
frame_row F n w m i =
    let z : w - 1 ≡ m = omega arith in
    rw (ne_eqb w 0 (λ e. omega arith), z)

several-frame : (k : ℕ) (F : List ℕ) (n m : ℕ) → (n ≡ 1 → ⊥) → (u : Shape) (w : ℕ) → w ≡ choose (gates_call k u) (suc m) 0 → frame_in F n w ≡ several_frame k (get_or F m 0) u
several-frame k F n m i bare w h = frame-plain F n w h
several-frame k F n m i other w h = frame-plain F n w h
several-frame k F n m i (calls f) w h = go (eqb f k) h
  where
    go : (b : Bool) → w ≡ choose (choose b false true) (suc m) 0 → frame_in F n w ≡ choose b Frame.Plain (Frame.Gate (get_or F m 0))
    go true h = frame-plain F n w h
    go false h = frame_row F n w m h ∙ rw (ne_eqb n 1 i)

pub frame-of : (k : ℕ) (F : List ℕ) (n m : ℕ) (xs : List ℕ) → n ≡ length xs → (u : Shape) (w : ℕ) → w ≡ choose (gates_right k n u) (suc m) (choose (eqb n 1) (suc m) 0) → frame_in F n w ≡ flagged_frame k (get_or F m 0) xs u
frame-of k F n m [] i u w h = let j = ne_eqb n 1 (λ e. omega arith) in several-frame k F n m (λ e. omega arith) u w (rw j at h)
frame-of k F n m (x ∷ []) i u w h = let j = eq-eqb n 1 i in frame_row F n w m (rw j at h) ∙ rw j
frame-of k F n m (x ∷ y ∷ xs) i u w h = let j = ne_eqb n 1 (λ e. omega arith) in several-frame k F n m (λ e. omega arith) u w (rw j at h)

module _ (A : Arrays) (condact : ℕ) (same : length A.values ≡ length A.tags) (s s' : Tables) (p : ℕ) (r : Result ℕ given.Fault) (l : Span) (sp : Spanned (name A.names) A.tags A.values p l) (E : Walks A s s' l.end r) where
  -- where the right side stands, and the walk over it
  inside : (c : Clock) (e : Equation) (q : ℕ) → EquationSited A.names A.tags A.values A.sites c e p q → p < length A.tags
  inside c e q S = let v = seen_at e.right refl refl refl S.right in omega (arith, v.0)

  stands_at : (c : Clock) (e : Equation) (q : ℕ) → EquationSited A.names A.tags A.values A.sites c e p q → l.end ≡ p + 1 + length e.left
  stands_at c e q S = right-stands A.names A.tags A.values same p l sp e q (inside c e q S) S.stands

  walked : (T : Setting) (c : Clock) (e : Equation) (q : ℕ) (y : Needs) → Known A T → Roomy A T s → EquationSited A.names A.tags A.values A.sites c e p q → Begun s y →
      Leaves A T s s' (needed T.nodes c e.right y) (p + 1 + length e.left) 1 q (tree_codes (ground_of A T) c y.holds e.right) y.holds (tree_holds (ground_of A T) c y.holds e.right) r (fault_in T.types T.nodes T.node c e.right)
  walked T c e q y K R S B =
      let i = stands_at c e q S in
      subst (λ (u : ℕ). Leaves A T s s' (needed T.nodes c e.right y) u 1 q (tree_codes (ground_of A T) c y.holds e.right) y.holds (tree_holds (ground_of A T) c y.holds e.right) r (fault_in T.types T.nodes T.node c e.right)) i
      (E.walk T c e.right q y K R (subst (λ (u : ℕ). LiesAt A.tags A.values (Site A) c e.right u q) (sym i) S.right) B)

  -- the right side meets a fault
  pub equation-stopped : (w : Result ℕ given.Fault) (t : given.Fault) → r ≡ Err t → w ≡ r → WalksEquation A condact s s' p w
  unfolding right_fault
  equation-stopped w t b k = record { walk = λ T end lay N c e q y K R S B. ended-stop (choose (is_base c) none (flagged_fault T.types T.nodes T.node condact e.left (shape_after T.types T.nodes T.node condact c e.right))) t b k (walked T c e q y K R S B) }

  module _ (x : ℕ) (went : r ≡ Ok x) (L : Sized s s') where
    -- it is on base
    pub equation-base : is_base (clock_in A.sites (17 * p)) ≡ true → (plan'' : List ℕ) → plan'' ≡ set s'.plan p 0 → WalksEquation A condact s (record s' { plan = plan'' }) p (Ok x)
    unfolding right_fault right_needs
    equation-base k plan'' z = record {
      walk = λ T end lay N c e q y K R S B.
          let i : is_base c ≡ true = ap is_base (sym S.row) ∙ k in
          let t = inside c e q S in
          let m = R.plan in
          let n = L.plan in
          let s'' : Tables = record s' { plan = plan'' } in
          let u = shape_after T.types T.nodes T.node condact c e.right in
          let v = needed T.nodes c e.right y in
          let w : get_or plan'' p 0 ≡ 0 = there s'.plan plan'' p 0 z (omega arith) in
          ended-then went (walked T c e q y K R S B)
          (λ P j. ended-goes (choose (is_base c) none (flagged_fault T.types T.nodes T.node condact e.left u)) (ap (λ (b : Bool). choose b none (flagged_fault T.types T.nodes T.node condact e.left u)) i)
          (noted A T condact s s' s'' y c e p q S P (beside s'.plan plan'' p 0 z) refl (sited-on A condact c e p q S) (subst (λ (b : Bool). Begun s' (choose b v (flagged_needs condact c e.left u v))) (sym i) P.begun)
          (λ o x F f H W a plan''' agree. frame-plain F (length e.left) (get_or plan''' p 0) (agree ∙ w) ∙ ap (λ (b : Bool). frame_of b condact (get_or F (clock_place c o.flags) 0) e.left u) (sym i))) j)
          (λ P Q. Q);
    }

    -- ---- the flag of its clock d, v being what its right side calls and o what it meets
    module _ (d : Clock) (row : d ≡ clock_in A.sites (17 * p)) (k : is_base (clock_in A.sites (17 * p)) ≡ false) (v : code.Option ℕ)
        (shaped : (e : Expr) (q : ℕ) (types : List TypeDef) (ns : List Node) (node : Node) → tree A.names (tokens A.tags A.values) l.end ≡ got e q → NodesStand A.names A.tags A.values A.places A.nodes ns → v ≡ called_by (shape_after types ns node condact d e)) (o : Option Fault)
        (meets : (xs : List ℕ) (u : Shape) (types : List TypeDef) (ns : List Node) (node : Node) → v ≡ called_by u → Spans (name A.names) (tokens A.tags A.values) xs l → Typed A types node → o ≡ flagged_fault types ns node condact xs u) where
      clock-is : (c : Clock) (e : Equation) (q : ℕ) → EquationSited A.names A.tags A.values A.sites c e p q → d ≡ c
      clock-is c e q S = row ∙ S.row

      shape_is : (T : Setting) (c : Clock) (e : Equation) (q : ℕ) → Known A T → EquationSited A.names A.tags A.values A.sites c e p q → v ≡ called_by (shape_after T.types T.nodes T.node condact c e.right)
      shape_is T c e q K S =
          let t = seen_at e.right refl refl refl S.right in
          let h = subst (λ (u : ℕ). tree A.names (tokens A.tags A.values) u ≡ got e.right q) (sym (stands_at c e q S)) t.1.stands in
          shaped e.right q T.types T.nodes T.node h K.standing ∙ ap (λ (u : Clock). called_by (shape_after T.types T.nodes T.node condact u e.right)) (clock-is c e q S)

      fault-is : (T : Setting) (end : ℕ) (lay : NodeLayout) → LaidNode A.names (tokens A.tags A.values) T.node end lay → (c : Clock) (e : Equation) (q : ℕ) → Known A T → EquationSited A.names A.tags A.values A.sites c e p q →
          choose (is_base c) none (flagged_fault T.types T.nodes T.node condact e.left (shape_after T.types T.nodes T.node condact c e.right)) ≡ o
      fault-is T end lay N c e q K S =
          let i : is_base c ≡ false = ap is_base (sym S.row) ∙ k in
          let h = meets e.left (shape_after T.types T.nodes T.node condact c e.right) T.types T.nodes T.node (shape_is T c e q K S) (lefts-stand A.names A.tags A.values same p l sp e q S.stands) (record { end = end; layout = lay; laid = N; typed = K.typed; declares = K.declares }) in
          ap (λ (b : Bool). choose b none (flagged_fault T.types T.nodes T.node condact e.left (shape_after T.types T.nodes T.node condact c e.right))) i ∙ sym h

      -- it meets a fault
      pub equation-met : (w : Result ℕ given.Fault) (t : given.Fault) → w ≡ Err t → o ≡ some (fault_of t) → WalksEquation A condact s s' p w
      unfolding right_fault
      equation-met w t j h = rw j (record {
        walk = λ T end lay N c e q y K R S B.
            ended-then went (walked T c e q y K R S B)
            (λ P j. ended_some q (EquationNoted A T condact s s' y c e p q) (choose (is_base c) none (flagged_fault T.types T.nodes T.node condact e.left (shape_after T.types T.nodes T.node condact c e.right))) (fault_of t) t (fault-is T end lay N c e q K S ∙ h) refl)
            (λ P Q. Q);
      })

      -- it meets none
      module _ (h : o ≡ none) (gated : Bool) (gates : (u : Shape) → v ≡ called_by u → gated ≡ gates_right condact l.count u) (s'' : Tables) (many : length s''.flags ≡ length s'.flags) (F : (y : Needs) → Begun s' y → Flagged s' s'' d l.count gated y p) where
        flagged-at : (T : Setting) (c : Clock) (e : Equation) (q : ℕ) → Known A T → EquationSited A.names A.tags A.values A.sites c e p q → (z : Needs) → Begun s' z →
            Flagged s' s'' c (length e.left) (gates_right condact (length e.left) (shape_after T.types T.nodes T.node condact c e.right)) z p
        flagged-at T c e q K S z B =
            let i : l.count ≡ length e.left = (lefts-stand A.names A.tags A.values same p l sp e q S.stands).many in
            let D = F z B in
            let a : gated ≡ gates_right condact (length e.left) (shape_after T.types T.nodes T.node condact c e.right) = let u = shape_after T.types T.nodes T.node condact c e.right in gates u (shape_is T c e q K S) ∙ ap (λ (n : ℕ). gates_right condact n u) i in
            subst (λ (g : Bool). Flagged s' s'' c (length e.left) g z p) a
            (subst (λ (n : ℕ). Flagged s' s'' c n gated z p) i (subst (λ (u : Clock). Flagged s' s'' u l.count gated z p) (clock-is c e q S) D))

        pub equation-flagged : WalksEquation A condact s s'' p (Ok x)
        unfolding right_fault right_needs
        equation-flagged = record {
          walk = λ T end lay N c e q y K R S B.
              let i : is_base c ≡ false = ap is_base (sym S.row) ∙ k in
              let t = inside c e q S in
              let u = shape_after T.types T.nodes T.node condact c e.right in
              let z = needed T.nodes c e.right y in
              let y'' = choose (gates_right condact (length e.left) u) (with_gate c z) (with_flag c z) in
              let need : y'' ≡ choose (is_base c) z (flagged_needs condact c e.left u z) = needs-of condact c (length e.left) e.left refl u z ∙ ap (λ (b : Bool). choose b z (flagged_needs condact c e.left u z)) (sym i) in
              ended-then went (walked T c e q y K R S B)
              (λ P j.
              let D = flagged-at T c e q K S z P.begun in
              ended-goes (choose (is_base c) none (flagged_fault T.types T.nodes T.node condact e.left u)) (fault-is T end lay N c e q K S ∙ h)
              (noted A T condact s s' s'' y c e p q S P D.beside D.held (sited-on A condact c e p q S) (subst (λ (x : Needs). Begun s'' x) need D.begun)
              (λ w x G f H W a plan''' agree.
              let a' : Leads y'' w = subst (λ (x : Needs). Leads x w) (sym need) a in
              let fl = gated-flags (gates_right condact (length e.left) u) c z in
              let many-flags = a'.flags.many in
              let len = ap (λ (cs : List Clock). length cs) fl in
              let room = R.flags in
              let grown = L.flags in
              let fit = W.flags-fit in
              let few = W.few-flags in
              let rp = R.plan in
              let lp = L.plan in
              let place : clock_place c (add_with_parents c z.flags) ≡ clock_place c w.flags = ap (clock_place c) (sym fl) ∙ a'.flags.place c (subst (λ (cs : List Clock). any (same_clock c) cs ≡ true) (sym fl) (has-parents c z.flags i)) in
              let word = D.word (omega arith) (omega arith) (omega arith) in
              frame-of condact G (length e.left) (clock_place c w.flags) e.left refl u (get_or plan''' p 0) (agree ∙ subst (λ (m : ℕ). get_or s''.plan p 0 ≡ choose (gates_right condact (length e.left) u) (suc m) (choose (eqb (length e.left) 1) (suc m) 0)) place word) ∙
              ap (λ (b : Bool). frame_of b condact (get_or G (clock_place c w.flags) 0) e.left u) (sym i)))
              j)
              (λ P Q. Q);
        }
