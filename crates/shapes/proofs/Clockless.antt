-- A node that uses no clocks is on base throughout: no clock is too deep, only ticks on base are found, and rewriting leaves it as it is.
use mathlib.Core.Path.{◌≡◌, refl, sym, ap, ◌∙◌, subst, subst⁻¹}
use mathlib.Core.Bool.{Bool, true, false, true≢false}
use mathlib.Core.List.Memᴰ
use mathlib.Core.List.{List, [], ◌∷◌, map, append-nil}
use mathlib.Core.Option.{Option, none, some}
use Prim.Native.Nat.{ℕ, suc}
use Rattle.std.proofs.lemmas.Bool.{or_parts}
use Rattle.definitions.specs.Lists.{choose, any, join, numbered, Letters}
use Rattle.definitions.specs.Tree.{TypeDef, Expr, Exprs, Equation, Node, Sheet}
use Rattle.definitions.specs.Clock.{Clock, base, is_base, same_clock}
use Rattle.definitions.specs.InferClocks.{Formed, deep, formed, Clocks, clock_of, Natural, natural, naturals, ◌or◌, Inferred, inferred, Fault, Finding, found, site, too_deep, must_be_on, check, checks, check_left, Clocked, or_base, clocked_by, check_equation, Clocking, is_too_deep, clocking, NodeFault, clock_faults, sites, samples, sampled, uses_clocks}
use Rattle.definitions.specs.Declock.{State, nothing_needed, Stem, Rewritten, done, Rewriter, after, Shape, bare, other, calls, shape_of, pre_on, held_pre, rewrite, rewrites, right_side, old_equations, new_locals, with_new}
use Rattle.definitions.specs.Output.{new_id, condact_id, ClockedNode, rewritten, stopped_at, node_faults, output_node}
use Rattle.shapes.proofs.Facts.{All, all_nil, all_cons, all_app}
use Rattle.shapes.proofs.Formed.{formed-eq}
use Rattle.shapes.proofs.Inference.{Forms, SomeClock, Known, clock_of-known, inferred-known}

-- it is base
abbrev IsBase : Clock → Type 0
IsBase c = c ≡ base

-- a natural clock that is formed, and base if there is one
abbrev Flat : Natural → Type 0
Flat a = Forms ⊥ (SomeClock IsBase) a

or-flat : (a b : Natural) → Flat a → Flat b → Flat (a or b)
or-flat deep b h g = h
or-flat (formed none) b h g = g
or-flat (formed (some c)) b h g = h

module _ (cl : Clocks) (known : Known IsBase cl) where
  mutual
    unfolding natural samples

    natural-flat : (e : Expr) → samples e ≡ false → Flat (natural cl e)
    natural-flat (Expr.const l w) f = tt
    natural-flat (Expr.var x) f = clock_of-known IsBase cl known x
    natural-flat (Expr.op h es) f = naturals-flat es f
    natural-flat (Expr.pre e) f = natural-flat e f
    natural-flat (Expr.arrow a b) f = or-flat (natural cl a) (natural cl b) (natural-flat a (or_parts (samples a) (samples b) f).0) (natural-flat b (or_parts (samples a) (samples b) f).1)
    natural-flat (Expr.call g es) f = naturals-flat es f
    natural-flat (Expr.when k e) f = absurd (true≢false f)
    natural-flat (Expr.merge x a b) f = absurd (true≢false f)

    naturals-flat : (es : Exprs) → sampled es ≡ false → Flat (naturals cl es)
    naturals-flat Exprs.end f = tt
    naturals-flat (Exprs.and e es) f = or-flat (natural cl e) (naturals cl es) (natural-flat e (or_parts (samples e) (sampled es) f).0) (naturals-flat es (or_parts (samples e) (sampled es) f).1)

-- what is found is a `pre` or `->` on base
abbrev Calm : Finding → Type 0
Calm (found f) = ⊥
Calm (site c) = IsBase c
Calm too_deep = ⊥

calm-shallow : (l : List Finding) → All Calm l → any is_too_deep l ≡ false
calm-shallow [] h = refl
calm-shallow (found f ∷ l) h = absurd (h (found f) (Memᴰ.head refl))
calm-shallow (site c ∷ l) h = calm-shallow l (λ x m. h x (Memᴰ.tail m))
calm-shallow (too_deep ∷ l) h = absurd (h too_deep (Memᴰ.head refl))

calm-faults : (l : List Finding) → All Calm l → clock_faults l ≡ []
unfolding clock_faults
calm-faults [] h = refl
calm-faults (found f ∷ l) h = absurd (h (found f) (Memᴰ.head refl))
calm-faults (site c ∷ l) h = calm-faults l (λ x m. h x (Memᴰ.tail m))
calm-faults (too_deep ∷ l) h = absurd (h too_deep (Memᴰ.head refl))

calm-sites : (l : List Finding) → All Calm l → sites l ≡ []
unfolding sites
calm-sites [] h = refl
calm-sites (found f ∷ l) h = absurd (h (found f) (Memᴰ.head refl))
calm-sites (site c ∷ l) h = ap (λ (z : Clock). choose (is_base z) (sites l) (z ∷ sites l)) (h (site c) (Memᴰ.head refl)) ∙ calm-sites l (λ x m. h x (Memᴰ.tail m))
calm-sites (too_deep ∷ l) h = absurd (h too_deep (Memᴰ.head refl))

module _ (cl : Clocks) (known : Known IsBase cl) (i : ℕ) where
  must_be_on-calm : (x : ℕ) (f : Clock → Fault) → All Calm (must_be_on cl i base x f)
  unfolding must_be_on
  must_be_on-calm x f = go (clock_of cl x) (clock_of-known IsBase cl known x)
    where
      go : (o : Option Clock) → SomeClock IsBase o → All Calm (elim o as (λ x. List Finding) [ none ↦ [] | some d ↦ choose (same_clock d base) [] (found (record { equation = i; fault = f d }) ∷ []) ])
      go none h = all_nil Calm
      go (some d) h = subst⁻¹ (λ (z : Clock). All Calm (choose (same_clock z base) [] (found (record { equation = i; fault = f z }) ∷ []))) h (all_nil Calm)

  mutual
    unfolding check samples

    check-calm : (e : Expr) → samples e ≡ false → All Calm (check cl i base e)
    check-calm (Expr.const l w) f = all_nil Calm
    check-calm (Expr.var x) f = must_be_on-calm x _
    check-calm (Expr.op h es) f = checks-calm es f
    check-calm (Expr.pre e) f = all_cons Calm (site base) _ refl (check-calm e f)
    check-calm (Expr.arrow a b) f = all_cons Calm (site base) _ refl (all_app Calm (check cl i base a) (check cl i base b) (check-calm a (or_parts (samples a) (samples b) f).0) (check-calm b (or_parts (samples a) (samples b) f).1))
    check-calm (Expr.call g es) f = checks-calm es f
    check-calm (Expr.when k e) f = absurd (true≢false f)
    check-calm (Expr.merge x a b) f = absurd (true≢false f)

    checks-calm : (es : Exprs) → sampled es ≡ false → All Calm (checks cl i base es)
    checks-calm Exprs.end f = all_nil Calm
    checks-calm (Exprs.and e es) f = all_app Calm (check cl i base e) (checks cl i base es) (check-calm e (or_parts (samples e) (sampled es) f).0) (checks-calm es (or_parts (samples e) (sampled es) f).1)

  left-calm : (n : Node) (xs : List ℕ) → All Calm (check_left cl i n base xs)
  unfolding check_left
  left-calm n [] = all_nil Calm
  left-calm n (x ∷ xs) = all_app Calm (must_be_on cl i base x _) _ (must_be_on-calm x _) (left-calm n xs)

-- equations on base
abbrev on_base : Equation → Clocked
on_base e = record { clock = base; equation = e }

-- no when or merge stands in their right sides
abbrev Unsampled : Equation → Type 0
Unsampled e = samples e.right ≡ false

unsampled : (es : List Equation) → any (λ e. samples e.right) es ≡ false → All Unsampled es
unsampled [] f = all_nil Unsampled
unsampled (e ∷ es) f = all_cons Unsampled e es (or_parts (samples e.right) _ f).0 (unsampled es (or_parts (samples e.right) _ f).1)

equations-calm : (n : Node) (cl : Clocks) → Known IsBase cl → (i : ℕ) (es : List Equation) → All Unsampled es → All Calm (join (numbered (check_equation n cl) i (map on_base es)))
unfolding check_equation
equations-calm n cl k i [] h = all_nil Calm
equations-calm n cl k i (e ∷ es) h = all_app Calm (check_equation n cl i (on_base e)) _
    (all_app Calm (check_left cl i n base e.left) (check cl i base e.right) (left-calm cl k i n e.left) (check-calm cl k i e.right (h e (Memᴰ.head refl)))) (equations-calm n cl k (suc i) es (λ x m. h x (Memᴰ.tail m)))

-- what is formed, where it is
is-formed : {A : Type 0} (Q : A → Type 0) (a : Formed A) → Forms ⊥ Q a → (x : A) × (a ≡ formed x) × Q x
is-formed Q deep h = absurd h
is-formed Q (formed x) h = (x, refl, h)

clocked-base : (cl : Clocks) → Known IsBase cl → (es : List Equation) → All Unsampled es → clocked_by cl es ≡ formed (map on_base es)
unfolding clocked_by
clocked-base cl k [] h = refl
clocked-base cl k (e ∷ es) h = rw (is.1, clocked-base cl k es (λ x m. h x (Memᴰ.tail m)), or_base-is is.0 is.2)
  where
    is : (o : Option Clock) × (natural cl e.right ≡ formed o) × SomeClock IsBase o
    is = is-formed (SomeClock IsBase) (natural cl e.right) (natural-flat cl k e.right (h e (Memᴰ.head refl)))

    or_base-is : (o : Option Clock) → SomeClock IsBase o → or_base o ≡ base
    or_base-is none s = refl
    or_base-is (some c) s = s

-- rewriting on base
module _ (types : List TypeDef) (nodes : List Node) (new : Stem → ℕ → ℕ) (condact : ℕ) (node : Node) where
  module _ (i : ℕ) where
    pre-same : (e : Expr) (s : State) → pre_on types nodes new condact node i base e e s ≡ done (Expr.pre e) s
    unfolding pre_on
    pre-same e s = go (shape_of e)
      where
        go : (u : Shape) → (elim u as (λ x. Rewriter Expr) [
          | bare ↦ (λ s. done (Expr.pre e) s)
          | other ↦ choose (is_base base) (λ s. done (Expr.pre e) s) (held_pre types nodes new condact node i base e e)
          | calls g ↦ choose (is_base base) (λ s. done (Expr.pre e) s) (held_pre types nodes new condact node i base e e)
        ]) s ≡ done (Expr.pre e) s
        go bare = refl
        go other = refl
        go (calls g) = refl

    mutual
      unfolding rewrite samples

      rewrite-same : (e : Expr) (s : State) → samples e ≡ false → rewrite types nodes new condact node i base e s ≡ done e s
      rewrite-same (Expr.const l w) s f = refl
      rewrite-same (Expr.var x) s f = refl
      rewrite-same (Expr.op h es) s f = rw (rewrites-same es s f)
      rewrite-same (Expr.pre e) s f = ap (λ (z : Rewritten Expr). after z (λ g. pre_on types nodes new condact node i base e g)) (rewrite-same e s f) ∙ pre-same e s
      rewrite-same (Expr.arrow a b) s f = rw (rewrite-same a s (or_parts (samples a) (samples b) f).0, rewrite-same b s (or_parts (samples a) (samples b) f).1)
      rewrite-same (Expr.call g es) s f = rw (rewrites-same es s f)
      rewrite-same (Expr.when k e) s f = absurd (true≢false f)
      rewrite-same (Expr.merge x a b) s f = absurd (true≢false f)

      rewrites-same : (es : Exprs) (s : State) → sampled es ≡ false → rewrites types nodes new condact node i base es s ≡ done es s
      rewrites-same Exprs.end s f = refl
      rewrites-same (Exprs.and e es) s f = rw (rewrite-same e s (or_parts (samples e) (sampled es) f).0, rewrites-same es s (or_parts (samples e) (sampled es) f).1)

    right_side-same : (xs : List ℕ) (e : Expr) (s : State) → samples e ≡ false → right_side types nodes new condact node i base xs e s ≡ done e s
    unfolding right_side
    right_side-same xs e s f = rw (rewrite-same e s f)

  equations-same : (i : ℕ) (es : List Equation) (s : State) → All Unsampled es → old_equations types nodes new condact node i (map on_base es) s ≡ done es s
  unfolding old_equations
  equations-same i [] s h = refl
  equations-same i (e ∷ es) s h = rw (right_side-same i e.left e.right s (h e (Memᴰ.head refl)), equations-same (suc i) es s (λ x m. h x (Memᴰ.tail m)))

-- what holds of a node that uses no clocks
pub record Clockless (n : Node) (k : Clocking) : Type 0 where
  -- no clock is too deep: 9 is only "of a node that uses clocks"
  pub clocks : clocking n ≡ formed k
  -- every name that has a clock is on base, and every equation
  pub names-on-base : All (λ r. r.clock ≡ base) k.names
  pub equations-on-base : k.equations ≡ map (λ e. record { clock = base; equation = e }) n.equations
  pub no-faults : clock_faults k.findings ≡ []
  pub no-chains : sites k.findings ≡ []
  -- rewriting is done, needs nothing, and leaves the equations as they are
  pub rewriting : (names : List Letters) (sheet : Sheet) (all : List Letters) → rewritten names sheet all (record { node = n; clocking = k }) ≡ done n.equations nothing_needed

-- the clocks of such a node, from what inference leaves
abbrev whole : Node → Inferred → Clocking
whole n r = record { passes = r.passes; names = r.clocks; equations = map on_base n.equations; findings = join (numbered (check_equation n r.clocks) 0 (map on_base n.equations)) }

from-inferred : (n : Node) → All Unsampled n.equations → (r : Inferred) → inferred n ≡ formed r → Known IsBase r.clocks → Clockless n (whole n r)
unfolding clocking rewritten
from-inferred n flat r e k =
    let calm : All Calm (whole n r).findings = equations-calm n r.clocks k 0 n.equations flat in
    record {
      clocks = rw (e, clocked-base r.clocks k n.equations flat, calm-shallow (whole n r).findings calm);
      names-on-base = k;
      equations-on-base = refl;
      no-faults = calm-faults (whole n r).findings calm;
      no-chains = calm-sites (whole n r).findings calm;
      rewriting = λ names sheet all. equations-same sheet.types sheet.nodes (new_id names all n) (condact_id all) n 0 n.equations nothing_needed flat;
    }

pub clockless : (n : Node) → uses_clocks n ≡ false → (k : Clocking) × Clockless n k
unfolding uses_clocks
clockless n f =
    let flat = unsampled n.equations f in
    let r = is-formed (λ r. Known IsBase r.clocks) (inferred n) (inferred-known ⊥ IsBase refl n (λ e m cl k. natural-flat cl k e.right (flat e m))) in
    (whole n r.0, from-inferred n flat r.0 r.1 r.2)

-- the same of the clocks that such a node has
pub clockless-as : (n : Node) (k : Clocking) → uses_clocks n ≡ false → clocking n ≡ formed k → Clockless n k
clockless-as n k f e = let r = clockless n f in subst (Clockless n) (formed-eq r.0 k (sym r.1.clocks ∙ e)) r.1

-- where nothing was needed, the rewritten node is the node as it came
pub as-came : (letters : ℕ → Letters) (new : Stem → ℕ → ℕ) (n : Node) → with_new new n (new_locals letters new nothing_needed) n.equations ≡ n
unfolding with_new new_locals
as-came letters new n = λ i. record { name = n.name; kind = n.kind; inputs = n.inputs; outputs = n.outputs; locals = append-nil n.locals i; equations = n.equations; probes = n.probes }

-- so the output has such a node as it came, with or without looking whether it uses clocks
pub output-as-came : (names : List Letters) (sheet : Sheet) (all : List Letters) (n : ClockedNode) → uses_clocks n.node ≡ false → output_node names sheet all n ≡ n.node
unfolding output_node
output-as-came names sheet all n f = rw f

-- and has no fault
pub no-node-faults : (names : List Letters) (sheet : Sheet) (n : ClockedNode) → uses_clocks n.node ≡ false → clocking n.node ≡ formed n.clocking → node_faults names sheet n ≡ []
unfolding node_faults
no-node-faults names sheet n f e = go (clock_faults n.clocking.findings) (uses_clocks n.node) (clockless-as n.node n.clocking f e).no-faults f
  where
    go : (l : List NodeFault) (u : Bool) → l ≡ [] → u ≡ false
        → ◌≡◌ {A = List NodeFault} (elim l as (λ x. List NodeFault) [ g ∷ rest ↦ g ∷ rest | [] ↦ (elim (choose u (stopped_at names sheet (rewritten names sheet names n)) none) as (λ x. List NodeFault) [ none ↦ [] | some g ↦ g ∷ [] ]) ]) []
    go [] false p q = refl
    go [] true p q = absurd (true≢false q)
    go (g ∷ l) u p q = p

-- 9 is "of a node that uses clocks"
pub deep-uses-clocks : (n : Node) → clocking n ≡ deep → uses_clocks n ≡ true
deep-uses-clocks n e = go (uses_clocks n) refl
  where
    IsDeep : Formed Clocking → Type 0
    IsDeep deep = Unit {0}
    IsDeep (formed k) = ⊥

    go : (u : Bool) → uses_clocks n ≡ u → u ≡ true
    go true f = refl
    go false f = let r = clockless n f in absurd (subst IsDeep (sym e ∙ r.1.clocks) tt)
