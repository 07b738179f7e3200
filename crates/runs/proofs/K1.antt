-- K1: it is plain, its rewriting is the node that document 01 shows, and that node has a run over three ticks.
use mathlib.Core.Path.{◌≡◌, refl}
use mathlib.Core.Bool.{false≢true}
use mathlib.Core.List.{List, [], ◌∷◌}
use Prim.Native.Nat.{ℕ}
use Rattle.definitions.specs.Lists.{Letters}
use Rattle.definitions.specs.Tree.{Expr, Node}
use Rattle.definitions.specs.Clock.{base, is_on}
use Rattle.definitions.specs.InferClocks.{formed, site, Clocking, clocking}
use Rattle.definitions.specs.Declock.{if_of}
use Rattle.definitions.specs.Output.{ClockedNode, names_out, sheet_out}
use Rattle.runs.specs.Callees.{callees_of}
use Rattle.runs.specs.Run.{Env, SourceRun, RewrittenRun, AllHold, Holds, Takes, value, stream, on}
use Rattle.runs.specs.Plain.{once, locals_settled, no_condact, several_call, no_iterated_operator, no_underscored, Plain}
use Rattle.runs.proofs.Small.{numbers, rows, three, v, int0, ◌plus◌, ◌≔◌, or_held, first_of, int, boolean, operator, sheet_of, on_c, lettered}

-- x 1, c 2, y 3, a 4
unfoldable pub names : List Letters
unfolding lettered
names = lettered ("start" ∷ "x" ∷ "c" ∷ "y" ∷ "a" ∷ [])

-- `x when c`
abbrev pub when_c : Expr
when_c = Expr.when (is_on 2) (v 1)

abbrev pub start : Node
start = operator (int 1 ∷ boolean 2 ∷ []) (int 3 ∷ []) (int 4 ∷ []) (4 ≔ Expr.arrow when_c (Expr.pre (v 4) plus when_c) ∷ 3 ≔ Expr.merge 2 (v 4) int0 ∷ [])

abbrev pub clocks : Clocking
clocks = record {
  passes = 2;
  names = record { name = 4; clock = on_c } ∷ record { name = 1; clock = base } ∷ record { name = 2; clock = base } ∷ record { name = 3; clock = base } ∷ [];
  equations = record { clock = on_c; equation = 4 ≔ Expr.arrow when_c (Expr.pre (v 4) plus when_c) } ∷ record { clock = base; equation = 3 ≔ Expr.merge 2 (v 4) int0 } ∷ [];
  findings = site on_c ∷ site on_c ∷ [];
}

pub start-clocks : clocking start ≡ formed clocks
unfolding clocking
start-clocks = refl

abbrev pub source : ClockedNode
source = record { node = start; clocking = clocks }

pub start_plain : Plain names (sheet_of (start ∷ [])) source
unfolding names once locals_settled no_condact several_call no_iterated_operator no_underscored
start_plain = record { named-once = refl; locals-settled = refl; no-condact = refl; several-call = refl; no-iterated-operator = refl; no-underscored = refl }

-- a node with __ck0 5 and __first0 6 behind the locals, their right sides given, and the right side of a where its clock is off
abbrev pub rewritten_by : Expr → Expr → Node
rewritten_by ck first = operator (int 1 ∷ boolean 2 ∷ []) (int 3 ∷ []) (int 4 ∷ boolean 5 ∷ boolean 6 ∷ [])
    (5 ≔ ck ∷ 6 ≔ first ∷ 4 ≔ if_of (v 5) (if_of (v 6) (v 1) (Expr.pre (v 4) plus v 1)) (or_held int0 4) ∷ 3 ≔ if_of (v 2) (v 4) int0 ∷ [])

-- K1 rewritten, as document 01 shows it
abbrev pub rewritten : Node
rewritten = rewritten_by (v 2) (first_of 6 5)

unfoldable pub all : List Letters
unfolding lettered
all = lettered ("start" ∷ "x" ∷ "c" ∷ "y" ∷ "a" ∷ "__ck0" ∷ "__first0" ∷ [])

pub names-out : names_out names (sheet_of (start ∷ [])) (source ∷ []) ≡ all
unfolding names_out names all
names-out = refl

pub sheet-out : sheet_out names (sheet_of (start ∷ [])) (source ∷ []) ≡ sheet_of (rewritten ∷ [])
unfolding sheet_out names
sheet-out = refl

-- x is 5, 6, 7 and c is on, off, on; a is 5, held, 12
abbrev pub ρ : Env ℕ
ρ = rows ([] ∷ (5 ∷ 6 ∷ 7 ∷ []) ∷ (1 ∷ 0 ∷ 1 ∷ []) ∷ (5 ∷ 0 ∷ 12 ∷ []) ∷ (5 ∷ 5 ∷ 12 ∷ []) ∷ (1 ∷ 0 ∷ 1 ∷ []) ∷ (1 ∷ 0 ∷ 0 ∷ []) ∷ [])

pub start-runs : RewrittenRun numbers (callees_of all (sheet_of (rewritten ∷ []))) rewritten 3 ρ
unfolding RewrittenRun AllHold Holds Takes value stream on
start-runs = (
  (λ w. 99),
  (three _ (λ o. refl) (λ o. refl) (λ o. refl), (three _ (λ o. refl) (λ o. refl) (λ o. refl), (three _ (λ o. refl) (λ o. refl) (λ o. refl), (three _ (λ o. refl) (λ o. refl) (λ o. refl), tt)))),
)

-- kept to its clocks it is a run of K1 itself: a is 5, then 12
pub start-source-runs : SourceRun numbers (callees_of names (sheet_of (start ∷ []))) source 3 ρ
unfolding SourceRun AllHold Holds Takes value stream on
start-source-runs = (
  (λ w. 99),
  (three _ (λ o. refl) (λ o. absurd (false≢true o)) (λ o. refl), (three _ (λ o. refl) (λ o. refl) (λ o. refl), tt)),
)
