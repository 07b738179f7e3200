-- Demand 3 for a plain node of a sheet: the node that the output has in its place keeps its runs.
use mathlib.Core.Path.{◌≡◌, refl, sym, ap, ◌∙◌, subst⁻¹}
use mathlib.Core.Bool.{Bool, true, false, not, ◌&&◌, ◌||◌}
use mathlib.Core.List.{List, [], map, Memᴰ}
use mathlib.Core.Option.{Option, none, some}
use Prim.Native.Nat.{ℕ, ◌<◌}
use lib.Dec.{eqb}
use lib.ListN.{length}
use Rattle.std.proofs.lemmas.Bool.{and_parts, not-true}
use Rattle.definitions.specs.Lists.{choose, all, among, Letters}
use Rattle.definitions.specs.Tree.{Equation, Node, Sheet}
use Rattle.definitions.specs.Clock.{Clock, is_base}
use Rattle.definitions.specs.InferClocks.{formed, Clocked, Clocking, clocking, clock_of, clock_faults, uses_clocks}
use Rattle.definitions.specs.Declock.{State, nothing_needed, Rewritten, stopped, done, declared, new_locals, with_new}
use Rattle.definitions.specs.Output.{letters_of, new_id, condact_id, ClockedNode, rewritten, output_node}
use Rattle.runs.specs.Callees.{is_declared, is_operator, Callees, callees_of}
use Rattle.runs.specs.Run.{seen, AllHold, SourceRun, RewrittenRun}
use Rattle.runs.specs.Settled.{no_clock, settled}
use Rattle.runs.specs.Plain.{Part, reads, callee, computes, lefts, names_of, distinct, own_names, call_if_several, once, locals_settled, is_condact, not_condact, no_condact, several_call, not_underscored, no_underscored, underscored, Plain}
use Rattle.runs.specs.Demand.{RunsKept, KeptAlone}
use Rattle.runs.proofs.Facts.{or-other, of-any, all_in, Goes, goes_self}
use Rattle.runs.proofs.Parts.{Each, EachOf, each_right, each_map, each_both}
use Rattle.runs.proofs.Checked.{OldParts}
use Rattle.shapes.proofs.Clockless.{clockless}
use Rattle.shapes.proofs.Formed.{formed-eq}
use Rattle.runs.proofs.Inferred.{Clockings, clocked}
use Rattle.runs.proofs.Expressions.{Callable}
use Rattle.runs.proofs.Holding.{on_base}
use Rattle.runs.proofs.Settling.{Settled, settled-reading}
use Rattle.runs.proofs.Several.{CallIfSeveral, call-if-several}
use Rattle.runs.proofs.KeptRun.{NotCondact}
use Rattle.runs.proofs.Node.{Usable, source-run, source-kept}
use Rattle.runs.proofs.SameCallees.{CallsOther, all_alike}
use Rattle.runs.proofs.Names.{Apart, not_new, not-condact}
use Rattle.runs.proofs.Alike.{NotCalled, old_equations-alike, alike-done}

-- a name is one of the sheet's
abbrev pub Within : ℕ → Part → Type 0
Within m (reads x) = x < m
Within m (callee f) = f < m
Within m (computes h) = Unit {0}

-- an accepted node of a sheet: its names are the sheet's, its clocks are formed and without faults
module _ (names : List Letters) (apart : Apart [] names) (s : Sheet) (n : ClockedNode) (within : EachOf (Within (length names)) n.node.equations)
    (formed-clocks : clocking n.node ≡ formed n.clocking) (clean : clock_faults n.clocking.findings ≡ []) (plain : Plain names s n) where
  abbrev node : Node
  node = n.node

  c : Clockings node n.clocking
  c = clocked node n.clocking formed-clocks

  abbrev C : Callees
  C = callees_of names s

  -- what is known of each part of a right side
  abbrev Known : Part → Type 0
  Known p = Within (length names) p × (not_condact names s n p ≡ true) × (not_underscored names s n p ≡ true)

  known : EachOf Known node.equations
  unfolding no_condact no_underscored
  known e m =
      let rights = all (λ m. not (is_condact names m.name)) s.nodes in
      let a = each_right (not_condact names s n) node.equations (and_parts _ rights plain.no-condact).0 e m in
      let b = each_right (not_underscored names s n) node.equations plain.no-underscored e m in
      each_map (λ p. Within (length names) p × ((not_condact names s n p ≡ true) × (not_underscored names s n p ≡ true))) Known (λ p q. (q.0, q.1.0, q.1.1)) e.right
      (each_both (Within (length names)) (λ p. (not_condact names s n p ≡ true) × (not_underscored names s n p ≡ true)) e.right (within e m)
      (each_both (λ p. not_condact names s n p ≡ true) (λ p. not_underscored names s n p ≡ true) e.right a b))

  only-defined : (x : ℕ) → Memᴰ x (lefts node.equations) → Memᴰ x (own_names names s n)
  unfolding once
  only-defined x m =
      let own : List ℕ = own_names names s n in
      let ls : List ℕ = lefts node.equations in
      let before : Bool = distinct (names_of (declared node)) && distinct ls && all (λ x. among x ls) own in
      of-any x own (all_in (λ x. among x own) ls (and_parts before (all (λ x. among x own) ls) plain.named-once).1 x m)

  locals-settled : (x : ℕ) → Memᴰ x (names_of node.locals) → clock_of n.clocking.names x ≡ none → Settled C node n.clocking.names x
  unfolding locals_settled clock_of
  locals-settled x m e = settled-reading C node n.clocking.names x (or-other (not (no_clock n.clocking.names x)) (settled C node n.clocking.names x) (all_in _ (names_of node.locals) plain.locals-settled x m) (go (clock_of n.clocking.names x) e))
    where
      go : (o : Option Clock) → o ≡ none → not (elim o as (λ u. Bool) [ none ↦ true | some c ↦ false ]) ≡ false
      go o e = rw e

  several-call : (e : Clocked) → Memᴰ e n.clocking.equations → is_base e.clock ≡ false → CallIfSeveral e.equation.left e.equation.right
  unfolding several_call
  several-call e m b = call-if-several e.equation.left e.equation.right
      (or-other (is_base e.clock) (call_if_several e.equation.left e.equation.right) (all_in (λ e. is_base e.clock || call_if_several e.equation.left e.equation.right) n.clocking.equations plain.several-call e m) b)

  -- a called name is not `condact`, whatever names are added
  callable : (more : List Letters) → Goes names more → (f : ℕ) → Known (callee f) → eqb f (condact_id more) ≡ false
  callable more g f u = not-condact names more g f u.0 (not-true (is_condact names f) u.1)

  calls-other : EachOf (OldParts n.clocking.names (NotCondact C) (λ x. Unit {0})) node.equations
  calls-other e m = each_map Known (OldParts n.clocking.names (NotCondact C) (λ x. Unit {0})) w e.right (known e m)
    where
      w : (p : Part) → Known p → OldParts n.clocking.names (NotCondact C) (λ x. Unit {0}) p
      w (reads x) u = tt
      w (callee f) u = callable names (goes_self names) f u
      w (computes h) u = tt

  -- a source run depends on the kept values alone
  pub source-run-kept : (Val : Type 0) → KeptAlone Val C n
  unfolding KeptAlone
  source-run-kept Val M ticks ρ ρ' r h = source-kept M C n c clean calls-other ticks ρ ρ' h r

  -- the output: its names `all` go on from the sheet's, and its sheet s' has the same operators
  module _ (all : List Letters) (g : Goes names all) (s' : Sheet) (same-operators : (f : ℕ) → is_operator s'.nodes f ≡ is_operator s.nodes f) where
    abbrev C' : Callees
    C' = callees_of all s'

    usable : EachOf (Usable (new_id names all node) (Callable C C') (λ x. x < length names) node) node.equations
    usable e m = each_map Known (Usable (new_id names all node) (Callable C C') (λ x. x < length names) node) w e.right (known e m)
      where
        w : (p : Part) → Known p → Usable (new_id names all node) (Callable C C') (λ x. x < length names) node p
        w (reads x) u = (u.0, λ d stem j. not_new names all g node x u.0 (not-true (underscored (letters_of names x)) (or-other (is_declared node x) (not (underscored (letters_of names x))) u.2 d)) stem j)
        w (callee f) u = (callable names (goes_self names) f u, callable all g f u)
        w (computes h) u = tt

    not-called : (e : Clocked) → Memᴰ e n.clocking.equations → Each (NotCalled s.types s.nodes node (new_id names names node) (new_id names all node) (condact_id names) (condact_id all)) e.equation.right
    not-called e m = each_map Known (NotCalled s.types s.nodes node (new_id names names node) (new_id names all node) (condact_id names) (condact_id all)) w e.equation.right (known e.equation (c.equations.from e m))
      where
        w : (p : Part) → Known p → NotCalled s.types s.nodes node (new_id names names node) (new_id names all node) (condact_id names) (condact_id all) p
        w (reads x) u = tt
        w (callee f) u = (callable names (goes_self names) f u, callable all g f u)
        w (computes h) u = tt

    -- rewriting is done under the output's names too
    rewritten-all : (es : List Equation) (S : State) → rewritten names s names n ≡ done es S → (es' : List Equation) × (S' : State) × (rewritten names s all n ≡ done es' S')
    unfolding rewritten
    rewritten-all es S e = alike-done _ _ es S e (old_equations-alike s.types s.nodes node (new_id names names node) (new_id names all node) (condact_id names) (condact_id all) 0 n.clocking.equations nothing_needed nothing_needed not-called)

    module _ (Val : Type 0) where
      -- the node rewritten
      clocked-kept : (es : List Equation) (S : State) → rewritten names s all n ≡ done es S
          → RunsKept Val C C' n (with_new (new_id names all node) node (new_locals (letters_of names) (new_id names all node) S) es)
      unfolding RunsKept rewritten
      clocked-kept es S e M ticks ρ ρ' r h = source-kept M C n c clean calls-other ticks ρ ρ' h
          (source-run s.types s.nodes (letters_of names) (new_id names all node) n M C C' (λ f. sym (same-operators f)) (λ f. refl) (λ x. x < length names) (λ x y p q z. apart.distinct x y p q z) c clean usable
          only-defined locals-settled several-call es S e ticks ρ r)

      -- the node as it came, if it uses no clocks
      flat-equations : uses_clocks node ≡ false → n.clocking.equations ≡ map on_base node.equations
      flat-equations f =
          let k = clockless node f in
          ap (λ (k : Clocking). k.equations) (formed-eq n.clocking k.0 (sym formed-clocks ∙ k.1.clocks)) ∙ k.1.equations-on-base

      copied-kept : uses_clocks node ≡ false → RunsKept Val C C' n node
      unfolding RunsKept SourceRun RewrittenRun
      copied-kept f M ticks ρ ρ' r h = source-kept M C n c clean calls-other ticks ρ ρ' h (
        r.0,
        all_alike M C C' (λ g. sym (same-operators g)) (seen M node ρ) ticks n.clocking.equations r.0 other
            (subst⁻¹ (λ (es : List Clocked). AllHold M C' (seen M node ρ) ticks es r.0) (flat-equations f) r.1),
      )
        where
          other : (e : Clocked) → Memᴰ e n.clocking.equations → Each (CallsOther M C C' (λ g. sym (same-operators g)) (seen M node ρ)) e.equation.right
          other e m = each_map Known (CallsOther M C C' (λ g. sym (same-operators g)) (seen M node ρ)) w e.equation.right (known e.equation (c.equations.from e m))
            where
              w : (p : Part) → Known p → CallsOther M C C' (λ g. sym (same-operators g)) (seen M node ρ) p
              w (reads x) u = tt
              w (callee f) u = (callable names (goes_self names) f u, callable all g f u)
              w (computes h) u = tt

      -- the node of the output: where it uses clocks, its rewriting under the input's names is done
      pub node_kept : (uses_clocks node ≡ true → (es : List Equation) × (S : State) × (rewritten names s names n ≡ done es S)) → RunsKept Val C C' n (output_node names s all n)
      unfolding output_node
      node_kept d = go (uses_clocks node) refl
        where
          end : Rewritten (List Equation) → Node
          end r = elim r as (λ x. Node) [ stopped f ↦ node | done es s ↦ with_new (new_id names all node) node (new_locals (letters_of names) (new_id names all node) s) es ]

          go : (u : Bool) → uses_clocks node ≡ u → RunsKept Val C C' n (choose u (end (rewritten names s all n)) node)
          go true u =
              let q = d u in
              let r = rewritten-all q.0 q.1 q.2 in
              subst⁻¹ (λ (z : Rewritten (List Equation)). RunsKept Val C C' n (end z)) r.2 (clocked-kept r.0 r.1 r.2)
          go false u = copied-kept u
