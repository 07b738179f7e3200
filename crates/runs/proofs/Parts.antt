-- Facts of each part of an expression: from tests, one from another, two together.
use mathlib.Core.Path.{◌≡◌}
use mathlib.Core.Bool.{Bool, true, ◌&&◌}
use mathlib.Core.List.{List}
use Rattle.std.proofs.lemmas.Bool.{and_parts}
use Rattle.definitions.specs.Lists.{all}
use Rattle.definitions.specs.Tree.{Expr, Exprs, Equation}
use Rattle.runs.specs.Plain.{Part, reads, callee, computes, every_part, every_parts}
use Rattle.runs.proofs.Facts.{All, all_in}

-- P holds of each part of an expression
module _ (P : Part → Type 0) where
  unfoldable mutual
    pub Each : Expr → Type 0
    Each (Expr.const l w) = Unit {0}
    Each (Expr.var x) = P (reads x)
    Each (Expr.op h es) = P (computes h) × Eachs es
    Each (Expr.pre e) = Each e
    Each (Expr.arrow a b) = Each a × Each b
    Each (Expr.call f es) = P (callee f) × Eachs es
    Each (Expr.when k e) = P (reads k.name) × Each e
    Each (Expr.merge x a b) = P (reads x) × Each a × Each b

    pub Eachs : Exprs → Type 0
    Eachs Exprs.end = Unit {0}
    Eachs (Exprs.and e es) = Each e × Eachs es

  -- and of each part of the right sides of equations
  abbrev pub EachOf : List Equation → Type 0
  EachOf es = All (λ e. Each e.right) es

-- what passes a test in each part
module _ (test : Part → Bool) where
  mutual
    unfolding every_part Each

    pub each_of : (e : Expr) → every_part test e ≡ true → Each (λ p. test p ≡ true) e
    each_of (Expr.const l w) h = tt
    each_of (Expr.var x) h = h
    each_of (Expr.op g es) h = ((and_parts (test (computes g)) (every_parts test es) h).0, eachs-of es (and_parts (test (computes g)) (every_parts test es) h).1)
    each_of (Expr.pre e) h = each_of e h
    each_of (Expr.arrow a b) h = (each_of a (and_parts (every_part test a) (every_part test b) h).0, each_of b (and_parts (every_part test a) (every_part test b) h).1)
    each_of (Expr.call f es) h = ((and_parts (test (callee f)) (every_parts test es) h).0, eachs-of es (and_parts (test (callee f)) (every_parts test es) h).1)
    each_of (Expr.when k e) h = ((and_parts (test (reads k.name)) (every_part test e) h).0, each_of e (and_parts (test (reads k.name)) (every_part test e) h).1)
    each_of (Expr.merge x a b) h =
        let ha = (and_parts (test (reads x) && every_part test a) (every_part test b) h).0 in
        ((and_parts (test (reads x)) (every_part test a) ha).0, each_of a (and_parts (test (reads x)) (every_part test a) ha).1, each_of b (and_parts (test (reads x) && every_part test a) (every_part test b) h).1)

    eachs-of : (es : Exprs) → every_parts test es ≡ true → Eachs (λ p. test p ≡ true) es
    eachs-of Exprs.end h = tt
    eachs-of (Exprs.and e es) h = (each_of e (and_parts (every_part test e) (every_parts test es) h).0, eachs-of es (and_parts (every_part test e) (every_parts test es) h).1)

  pub each_right : (es : List Equation) → all (λ e. every_part test e.right) es ≡ true → EachOf (λ p. test p ≡ true) es
  each_right es h e m = each_of e.right (all_in (λ e. every_part test e.right) es h e m)

-- one fact from another
module _ (P Q : Part → Type 0) (w : (p : Part) → P p → Q p) where
  mutual
    unfolding Each

    pub each_map : (e : Expr) → Each P e → Each Q e
    each_map (Expr.const l v) o = tt
    each_map (Expr.var x) o = w (reads x) o
    each_map (Expr.op h es) o = (w (computes h) o.0, eachs-map es o.1)
    each_map (Expr.pre e) o = each_map e o
    each_map (Expr.arrow a b) o = (each_map a o.0, each_map b o.1)
    each_map (Expr.call f es) o = (w (callee f) o.0, eachs-map es o.1)
    each_map (Expr.when k e) o = (w (reads k.name) o.0, each_map e o.1)
    each_map (Expr.merge x a b) o = (w (reads x) o.0, each_map a o.1, each_map b o.2)

    eachs-map : (es : Exprs) → Eachs P es → Eachs Q es
    eachs-map Exprs.end o = tt
    eachs-map (Exprs.and e es) o = (each_map e o.0, eachs-map es o.1)

-- two facts together
module _ (P Q : Part → Type 0) where
  mutual
    unfolding Each

    pub each_both : (e : Expr) → Each P e → Each Q e → Each (λ p. P p × Q p) e
    each_both (Expr.const l v) a b = tt
    each_both (Expr.var x) a b = (a, b)
    each_both (Expr.op h es) a b = ((a.0, b.0), eachs-both es a.1 b.1)
    each_both (Expr.pre e) a b = each_both e a b
    each_both (Expr.arrow x y) a b = (each_both x a.0 b.0, each_both y a.1 b.1)
    each_both (Expr.call f es) a b = ((a.0, b.0), eachs-both es a.1 b.1)
    each_both (Expr.when k e) a b = ((a.0, b.0), each_both e a.1 b.1)
    each_both (Expr.merge x y z) a b = ((a.0, b.0), each_both y a.1 b.1, each_both z a.2 b.2)

    eachs-both : (es : Exprs) → Eachs P es → Eachs Q es → Eachs (λ p. P p × Q p) es
    eachs-both Exprs.end a b = tt
    eachs-both (Exprs.and e es) a b = (each_both e a.0 b.0, eachs-both es a.1 b.1)

-- a fact of every part
module _ (P : Part → Type 0) (h : (p : Part) → P p) where
  mutual
    unfolding Each

    pub each_all : (e : Expr) → Each P e
    each_all (Expr.const l v) = tt
    each_all (Expr.var x) = h (reads x)
    each_all (Expr.op g es) = (h (computes g), eachs-all es)
    each_all (Expr.pre e) = each_all e
    each_all (Expr.arrow x y) = (each_all x, each_all y)
    each_all (Expr.call f es) = (h (callee f), eachs-all es)
    each_all (Expr.when k e) = (h (reads k.name), each_all e)
    each_all (Expr.merge x y z) = (h (reads x), each_all y, each_all z)

    eachs-all : (es : Exprs) → Eachs P es
    eachs-all Exprs.end = tt
    eachs-all (Exprs.and e es) = (each_all e, eachs-all es)
