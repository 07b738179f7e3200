-- Wrong rewritings of plain nodes, each refuted by `RunsKept` alone: a run of the wrong node, kept to the clocks, is no run of the source.
use mathlib.Core.Path.{◌≡◌, refl}
use mathlib.Core.List.{List, [], ◌∷◌}
use Prim.Native.Nat.{ℕ}
use native.Mathlib.Omega.{arith}
use Rattle.definitions.specs.declared.Literal.{Literal}
use Rattle.definitions.specs.Lists.{Letters}
use Rattle.definitions.specs.Tree.{Expr, Exprs, Node}
use Rattle.definitions.specs.Clock.{Clock, base, ◌↓◌, is_on}
use Rattle.definitions.specs.InferClocks.{formed, site, clocking}
use Rattle.definitions.specs.Declock.{true_of, not_of, and_of, if_of}
use Rattle.definitions.specs.Output.{ClockedNode, sheet_out}
use Rattle.runs.specs.Callees.{is_operator, Callees, callees_of}
use Rattle.runs.specs.Run.{Env, SourceRun, RewrittenRun, Kept, AllHold, Holds, Takes, value, called_at, stream, on}
use Rattle.runs.specs.Plain.{once, locals_settled, no_condact, several_call, no_iterated_operator, no_underscored, Plain}
use Rattle.runs.specs.Demand.{RunsKept}
use Rattle.runs.proofs.Small.{numbers, rows, three, v, int0, ◌plus◌, ◌≔◌, or_held, first_of, int, boolean, operator, sheet_of, on_c, lettered}
use Rattle.runs.proofs.K1.{when_c, source, rewritten_by}

-- K1 with its first-tick flag set again when the clock goes off (refuted in `ResetRefuted`)
abbrev pub reset : Node
reset = rewritten_by (v 2) (Expr.arrow true_of (not_of (Expr.pre (v 5))))

-- it takes 7 at the third tick, where the source has 12
abbrev pub ρ₁ : Env ℕ
ρ₁ = rows ([] ∷ (5 ∷ 6 ∷ 7 ∷ []) ∷ (1 ∷ 0 ∷ 1 ∷ []) ∷ (5 ∷ 0 ∷ 7 ∷ []) ∷ (5 ∷ 5 ∷ 7 ∷ []) ∷ (1 ∷ 0 ∷ 1 ∷ []) ∷ (1 ∷ 0 ∷ 1 ∷ []) ∷ [])

pub reset_runs : (C : Callees) → RewrittenRun numbers C reset 3 ρ₁
unfolding RewrittenRun AllHold Holds Takes value stream on
reset_runs C = (
  (λ w. 99),
  (three _ (λ o. refl) (λ o. refl) (λ o. refl), (three _ (λ o. refl) (λ o. refl) (λ o. refl), (three _ (λ o. refl) (λ o. refl) (λ o. refl), (three _ (λ o. refl) (λ o. refl) (λ o. refl), tt)))),
)

-- K1 with its `pre a` one tick late: __hold0 7 = if __ck0 then pre a else pre __hold0, and pre __hold0 stands for pre a
abbrev pub late : Node
late = operator (int 1 ∷ boolean 2 ∷ []) (int 3 ∷ []) (int 4 ∷ boolean 5 ∷ boolean 6 ∷ int 7 ∷ [])
    (5 ≔ v 2 ∷ 6 ≔ first_of 6 5 ∷ 7 ≔ if_of (v 5) (Expr.pre (v 4)) (Expr.pre (v 7))
    ∷ 4 ≔ if_of (v 5) (if_of (v 6) (v 1) (Expr.pre (v 7) plus v 1)) (or_held int0 4) ∷ 3 ≔ if_of (v 2) (v 4) int0 ∷ [])

abbrev pub ρ₂ : Env ℕ
ρ₂ = rows ([] ∷ (5 ∷ 6 ∷ 7 ∷ []) ∷ (1 ∷ 1 ∷ 1 ∷ []) ∷ (5 ∷ 105 ∷ 12 ∷ []) ∷ (5 ∷ 105 ∷ 12 ∷ []) ∷ (1 ∷ 1 ∷ 1 ∷ []) ∷ (1 ∷ 0 ∷ 0 ∷ []) ∷ (99 ∷ 5 ∷ 105 ∷ []) ∷ [])

pub late-runs : (C : Callees) → RewrittenRun numbers C late 3 ρ₂
unfolding RewrittenRun AllHold Holds Takes value stream on
late-runs C = (
  (λ w. 99),
  (
    three _ (λ o. refl) (λ o. refl) (λ o. refl),
    (
      three _ (λ o. refl) (λ o. refl) (λ o. refl),
      (
        three _ (λ o. refl) (λ o. refl) (λ o. refl),
        (three _ (λ o. refl) (λ o. refl) (λ o. refl), (three _ (λ o. refl) (λ o. refl) (λ o. refl), tt)),
      ),
    ),
  ),
)

pub late-refuted : (C C' : Callees) → ¬ RunsKept ℕ C C' source late
unfolding RunsKept Kept SourceRun AllHold Holds Takes value stream on
late-refuted C C' h =
    let r : SourceRun numbers C source 3 ρ₂ = h numbers 3 ρ₂ ρ₂ (late-runs C') (λ x t l i c. refl) in
    let e : ◌≡◌ {A = ℕ} 105 11 = r.1.0 1 (omega arith) refl in
    absurd (omega arith)

-- a clock under a clock: d = e when c, n = (x when c when d) -> pre n + (x when c when d). x 1, c 2, e 3; y 4; d 5, n 6
abbrev pub deep_x : Expr
deep_x = Expr.when (is_on 5) when_c

abbrev pub on_d : Clock
on_d = on_c ↓ is_on 5

abbrev pub nested : Node
nested = operator (int 1 ∷ boolean 2 ∷ boolean 3 ∷ []) (int 4 ∷ []) (boolean 5 ∷ int 6 ∷ [])
    (5 ≔ Expr.when (is_on 2) (v 3) ∷ 6 ≔ Expr.arrow deep_x (Expr.pre (v 6) plus deep_x) ∷ 4 ≔ v 1 ∷ [])

abbrev pub nested_source : ClockedNode
nested_source = record {
  node = nested;
  clocking = record {
    passes = 2;
    names = record { name = 6; clock = on_d } ∷ record { name = 5; clock = on_c } ∷ record { name = 1; clock = base } ∷ record { name = 2; clock = base } ∷ record { name = 3; clock = base } ∷ record { name = 4; clock = base } ∷ [];
    equations = record { clock = on_c; equation = 5 ≔ Expr.when (is_on 2) (v 3) } ∷ record { clock = on_d; equation = 6 ≔ Expr.arrow deep_x (Expr.pre (v 6) plus deep_x) } ∷ record { clock = base; equation = 4 ≔ v 1 } ∷ [];
    findings = site on_d ∷ site on_d ∷ [];
  };
}

unfoldable pub nested_names : List Letters
unfolding lettered
nested_names = lettered ("nested" ∷ "x" ∷ "c" ∷ "e" ∷ "y" ∷ "d" ∷ "n" ∷ [])

pub nested-clocks : clocking nested ≡ formed nested_source.clocking
unfolding clocking
nested-clocks = refl

pub nested-plain : Plain nested_names (sheet_of (nested ∷ [])) nested_source
unfolding nested_names once locals_settled no_condact several_call no_iterated_operator no_underscored
nested-plain = record { named-once = refl; locals-settled = refl; no-condact = refl; several-call = refl; no-iterated-operator = refl; no-underscored = refl }

-- rewritten, with __ck0 7, __ck1 8, __first0 9, the inner clock's activation flag given
abbrev pub nested_by : Expr → Node
nested_by flag = operator (int 1 ∷ boolean 2 ∷ boolean 3 ∷ []) (int 4 ∷ []) (boolean 5 ∷ int 6 ∷ boolean 7 ∷ boolean 8 ∷ boolean 9 ∷ [])
    (7 ≔ v 2 ∷ 8 ≔ flag ∷ 9 ≔ first_of 9 8
    ∷ 5 ≔ if_of (v 7) (v 3) (or_held (Expr.const (Literal.Bool 0) 0) 5)
    ∷ 6 ≔ if_of (v 8) (if_of (v 9) (v 1) (Expr.pre (v 6) plus v 1)) (or_held int0 6) ∷ 4 ≔ v 1 ∷ [])

-- the right one has its parent's flag in it
pub nested-out : sheet_out nested_names (sheet_of (nested ∷ [])) (nested_source ∷ []) ≡ sheet_of (nested_by (and_of (v 7) (v 5)) ∷ [])
unfolding sheet_out nested_names
nested-out = refl

-- without it the inner clock goes on where c is off
abbrev pub ρ₃ : Env ℕ
ρ₃ = rows ([] ∷ (5 ∷ 6 ∷ 7 ∷ []) ∷ (1 ∷ 0 ∷ 1 ∷ []) ∷ (1 ∷ 1 ∷ 1 ∷ []) ∷ (5 ∷ 6 ∷ 7 ∷ []) ∷ (1 ∷ 1 ∷ 1 ∷ []) ∷ (5 ∷ 11 ∷ 18 ∷ []) ∷ (1 ∷ 0 ∷ 1 ∷ []) ∷ (1 ∷ 1 ∷ 1 ∷ []) ∷ (1 ∷ 0 ∷ 0 ∷ []) ∷ [])

pub orphan-runs : (C : Callees) → RewrittenRun numbers C (nested_by (v 5)) 3 ρ₃
unfolding RewrittenRun AllHold Holds Takes value stream on
orphan-runs C = (
  (λ w. 99),
  (
    three _ (λ o. refl) (λ o. refl) (λ o. refl),
    (
      three _ (λ o. refl) (λ o. refl) (λ o. refl),
      (
        three _ (λ o. refl) (λ o. refl) (λ o. refl),
        (three _ (λ o. refl) (λ o. refl) (λ o. refl), (three _ (λ o. refl) (λ o. refl) (λ o. refl), (three _ (λ o. refl) (λ o. refl) (λ o. refl), tt))),
      ),
    ),
  ),
)

pub orphan-refuted : (C C' : Callees) → ¬ RunsKept ℕ C C' nested_source (nested_by (v 5))
unfolding RunsKept Kept SourceRun AllHold Holds Takes value stream on
orphan-refuted C C' h =
    let r : SourceRun numbers C nested_source 3 ρ₃ = h numbers 3 ρ₃ ρ₃ (orphan-runs C') (λ x t l i c. refl) in
    let e : ◌≡◌ {A = ℕ} 18 12 = r.1.1.0 2 (omega arith) refl in
    absurd (omega arith)

-- K7, a = pre (x when c). x 1, c 2; a 3
abbrev pub k7 : Node
k7 = operator (int 1 ∷ boolean 2 ∷ []) [] (int 3 ∷ []) (3 ≔ Expr.pre when_c ∷ [])

abbrev pub k7_source : ClockedNode
k7_source = record {
  node = k7;
  clocking = record {
    passes = 2;
    names = record { name = 3; clock = on_c } ∷ record { name = 1; clock = base } ∷ record { name = 2; clock = base } ∷ [];
    equations = record { clock = on_c; equation = 3 ≔ Expr.pre when_c } ∷ [];
    findings = site on_c ∷ [];
  };
}

unfoldable pub k7_names : List Letters
unfolding lettered
k7_names = lettered ("k" ∷ "x" ∷ "c" ∷ "a" ∷ [])

pub k7-clocks : clocking k7 ≡ formed k7_source.clocking
unfolding clocking
k7-clocks = refl

pub k7-plain : Plain k7_names (sheet_of (k7 ∷ [])) k7_source
unfolding k7_names once locals_settled no_condact several_call no_iterated_operator no_underscored
k7-plain = record { named-once = refl; locals-settled = refl; no-condact = refl; several-call = refl; no-iterated-operator = refl; no-underscored = refl }

-- the right one holds x where c is off: __ck0 4, __hold0 5
pub k7-out : sheet_out k7_names (sheet_of (k7 ∷ [])) (k7_source ∷ [])
    ≡ sheet_of (operator (int 1 ∷ boolean 2 ∷ []) [] (int 3 ∷ boolean 4 ∷ int 5 ∷ [])
    (4 ≔ v 2 ∷ 5 ≔ if_of (v 4) (v 1) (Expr.pre (v 5)) ∷ 3 ≔ if_of (v 4) (Expr.pre (v 5)) (or_held int0 3) ∷ []) ∷ [])
unfolding sheet_out k7_names
k7-out = refl

-- without its hold it gives x one base tick ago
abbrev pub unheld : Node
unheld = operator (int 1 ∷ boolean 2 ∷ []) [] (int 3 ∷ boolean 4 ∷ []) (4 ≔ v 2 ∷ 3 ≔ if_of (v 4) (Expr.pre (v 1)) (or_held int0 3) ∷ [])

abbrev pub ρ₄ : Env ℕ
ρ₄ = rows ([] ∷ (5 ∷ 6 ∷ 7 ∷ []) ∷ (1 ∷ 0 ∷ 1 ∷ []) ∷ (99 ∷ 99 ∷ 6 ∷ []) ∷ (1 ∷ 0 ∷ 1 ∷ []) ∷ [])

pub unheld-runs : (C : Callees) → RewrittenRun numbers C unheld 3 ρ₄
unfolding RewrittenRun AllHold Holds Takes value stream on
unheld-runs C = ((λ w. 99), (three _ (λ o. refl) (λ o. refl) (λ o. refl), (three _ (λ o. refl) (λ o. refl) (λ o. refl), tt)))

pub unheld-refuted : (C C' : Callees) → ¬ RunsKept ℕ C C' k7_source unheld
unfolding RunsKept Kept SourceRun AllHold Holds Takes value stream on
unheld-refuted C C' h =
    let r : SourceRun numbers C k7_source 3 ρ₄ = h numbers 3 ρ₄ ρ₄ (unheld-runs C') (λ x t l i c. refl) in
    let e : ◌≡◌ {A = ℕ} 6 5 = r.1.0 2 (omega arith) refl in
    absurd (omega arith)

-- an operator on a clock, a = f (x when c), f being the node itself: it counts its ticks. x 1, c 2; a 3
abbrev pub counts : Node
counts = operator (int 1 ∷ boolean 2 ∷ []) (int 4 ∷ []) (int 3 ∷ []) (3 ≔ Expr.call 0 (Exprs.and when_c Exprs.end) ∷ 4 ≔ v 1 ∷ [])

abbrev pub counts_source : ClockedNode
counts_source = record {
  node = counts;
  clocking = record {
    passes = 2;
    names = record { name = 3; clock = on_c } ∷ record { name = 1; clock = base } ∷ record { name = 2; clock = base } ∷ record { name = 4; clock = base } ∷ [];
    equations = record { clock = on_c; equation = 3 ≔ Expr.call 0 (Exprs.and when_c Exprs.end) } ∷ record { clock = base; equation = 4 ≔ v 1 } ∷ [];
    findings = [];
  };
}

unfoldable pub counts_names : List Letters
unfolding lettered
counts_names = lettered ("f" ∷ "x" ∷ "c" ∷ "a" ∷ "y" ∷ [])

pub counts-clocks : clocking counts ≡ formed counts_source.clocking
unfolding clocking
counts-clocks = refl

pub counts-plain : Plain counts_names (sheet_of (counts ∷ [])) counts_source
unfolding counts_names once locals_settled no_condact several_call no_iterated_operator no_underscored
counts-plain = record { named-once = refl; locals-settled = refl; no-condact = refl; several-call = refl; no-iterated-operator = refl; no-underscored = refl }

-- the call f(x), rewritten so: __ck0 5, `condact` 6
abbrev pub counts_by : Expr → Node
counts_by e = operator (int 1 ∷ boolean 2 ∷ []) (int 4 ∷ []) (int 3 ∷ boolean 5 ∷ []) (5 ≔ v 2 ∷ 3 ≔ if_of (v 5) e (or_held int0 3) ∷ 4 ≔ v 1 ∷ [])

abbrev pub plain_call : Expr
plain_call = Expr.call 0 (Exprs.and (v 1) Exprs.end)

-- the right one is gated
pub counts-out : sheet_out counts_names (sheet_of (counts ∷ [])) (counts_source ∷ []) ≡ sheet_of (counts_by (Expr.call 6 (Exprs.and (v 5) (Exprs.and plain_call (Exprs.and int0 Exprs.end)))) ∷ [])
unfolding sheet_out counts_names
counts-out = refl

unfoldable pub counts_all : List Letters
unfolding lettered
counts_all = lettered ("f" ∷ "x" ∷ "c" ∷ "a" ∷ "y" ∷ "__ck0" ∷ [])

-- not gated it counts the base ticks: 3 at the third tick, where the source has 2
abbrev pub ρ₅ : Env ℕ
ρ₅ = rows ([] ∷ (5 ∷ 6 ∷ 7 ∷ []) ∷ (1 ∷ 0 ∷ 1 ∷ []) ∷ (1 ∷ 1 ∷ 3 ∷ []) ∷ (5 ∷ 6 ∷ 7 ∷ []) ∷ (1 ∷ 0 ∷ 1 ∷ []) ∷ [])

pub ungated-runs : RewrittenRun numbers (callees_of counts_all (sheet_of (counts_by plain_call ∷ []))) (counts_by plain_call) 3 ρ₅
unfolding RewrittenRun AllHold Holds Takes value stream on called_at is_operator counts_all
ungated-runs = ((λ w. 99), (three _ (λ o. refl) (λ o. refl) (λ o. refl), (three _ (λ o. refl) (λ o. refl) (λ o. refl), (three _ (λ o. refl) (λ o. refl) (λ o. refl), tt))))

pub ungated-refuted : ¬ RunsKept ℕ (callees_of counts_names (sheet_of (counts ∷ []))) (callees_of counts_all (sheet_of (counts_by plain_call ∷ []))) counts_source (counts_by plain_call)
unfolding RunsKept Kept SourceRun AllHold Holds Takes value stream on called_at is_operator counts_names
ungated-refuted h =
    let r : SourceRun numbers (callees_of counts_names (sheet_of (counts ∷ []))) counts_source 3 ρ₅ = h numbers 3 ρ₅ ρ₅ ungated-runs (λ x t l i c. refl) in
    let e : ◌≡◌ {A = ℕ} 3 2 = r.1.0 2 (omega arith) refl in
    absurd (omega arith)
