-- Which names are settled: document 01, "settled, built up, never through itself, from constants, fixed functions and settled or
-- undeclared names".
use Prim.Native.Nat.{ℕ, zero, suc}
use Rattle.std.specs.Prelude.{Bool, true, false, ◌&&◌, ◌||◌, eqb, length}
use Rattle.std.proofs.Math.Bool.{not}
use mathlib.Core.List.{List, [], map}
use Rattle.std.proofs.Math.Option.{none, some}
use Rattle.definitions.specs.Lists.{any, all, keep, among}
use Rattle.definitions.specs.Tree.{Expr, Exprs, Node}
use Rattle.definitions.specs.InferClocks.{Clocks, clock_of}
use Rattle.runs.specs.Callees.{is_declared, Callees}

-- "from constants, fixed functions and .. names": no `pre`, `->`, when or merge, no call of an operator or of `condact`; names pass a test
module _ (C : Callees) (name : ℕ → Bool) where
  unfoldable mutual
    pub built : Expr → Bool
    built (Expr.const l w) = true
    built (Expr.var x) = name x
    built (Expr.op h es) = all_built es
    built (Expr.pre e) = false
    built (Expr.arrow a b) = false
    built (Expr.call f es) = not (C.operators f) && not (eqb f C.condact) && all_built es
    built (Expr.when k e) = false
    built (Expr.merge x a b) = false

    pub all_built : Exprs → Bool
    all_built Exprs.end = true
    all_built (Exprs.and e es) = built e && all_built es

-- has a name no clock?
abbrev pub no_clock : Clocks → ℕ → Bool
no_clock clocks x = elim (clock_of clocks x) [ none ↦ true | some c ↦ false ]

module _ (C : Callees) (node : Node) (clocks : Clocks) where
  -- is x built from undeclared names and these, by all its equations, one at least?
  unfoldable pub built_from : List ℕ → ℕ → Bool
  unfolding built
  built_from names x =
      any (λ e. among x e.left) node.equations
      && all (λ e. not (among x e.left) || built C (λ y. not (is_declared node y) || among y names) e.right) node.equations

  -- the locals without a clock that are built up in at most n steps: "never through itself"
  unfoldable pub settled_in : ℕ → List ℕ
  unfolding built_from clock_of
  settled_in zero = []
  settled_in (suc n) = keep (λ x. no_clock clocks x && built_from (settled_in n) x) (map (λ d. d.name) node.locals)

  -- is a name settled? As many steps as there are locals reach all: one more adds none (`steps-enough` in proofs/SettledSteps).
  unfoldable pub settled : ℕ → Bool
  unfolding settled_in
  settled x = among x (settled_in (length node.locals))
