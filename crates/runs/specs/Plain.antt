-- When a node is plain: document 01, "A node is *plain* when". Six conditions, each a test.
use Rattle.std.specs.Prelude.{◌≡◌, Bool, true, false, ◌&&◌, ◌||◌, List, [], ◌∷◌, ◌++◌, map, ℕ, eqb}
use Rattle.std.proofs.Math.Bool.{not}
use Rattle.definitions.specs.Lists.{all, among, join, Letters, same_letters, bytes}
use Rattle.definitions.specs.Tree.{Declared, Head, Expr, Exprs, Equation, Sheet}
use Rattle.definitions.specs.Clock.{is_base}
use Rattle.definitions.specs.InferClocks.{clock_of}
use Rattle.definitions.specs.Declock.{declared, Shape, bare, other, calls, shape_of}
use Rattle.definitions.specs.Output.{letters_of, ClockedNode}
use Rattle.runs.specs.Callees.{is_declared, is_operator, callees_of}
use Rattle.runs.specs.Settled.{no_clock, settled}

-- what stands in an expression: a name read (by itself, or as the clock name of a when or merge), a name called, a form
pub data Part : Type 0 where
  reads callee : ℕ → Part
  computes : Head → Part

-- does each part of an expression pass a test?
module _ (test : Part → Bool) where
  unfoldable mutual
    pub every_part : Expr → Bool
    every_part (Expr.const l w) = true
    every_part (Expr.var x) = test (reads x)
    every_part (Expr.op h es) = test (computes h) && every_parts es
    every_part (Expr.pre e) = every_part e
    every_part (Expr.arrow a b) = every_part a && every_part b
    every_part (Expr.call f es) = test (callee f) && every_parts es
    every_part (Expr.when k e) = test (reads k.name) && every_part e
    every_part (Expr.merge x a b) = test (reads x) && every_part a && every_part b

    pub every_parts : Exprs → Bool
    every_parts Exprs.end = true
    every_parts (Exprs.and e es) = every_part e && every_parts es

-- no name stands twice in a list
abbrev pub distinct : List ℕ → Bool
distinct [] = true
distinct (x ∷ xs) = not (among x xs) && distinct xs

-- the left names of equations
abbrev pub lefts : List Equation → List ℕ
lefts es = join (map (λ e. e.left) es)

-- the names of declarations
abbrev pub names_of : List Declared → List ℕ
names_of ds = map (λ d. d.name) ds

-- is an expression a call itself?
abbrev pub is_call : Shape → Bool
is_call bare = false
is_call other = false
is_call (calls f) = true

-- "several left names have a call itself as right side"
abbrev pub call_if_several : List ℕ → Expr → Bool
call_if_several [] e = true
call_if_several (x ∷ []) e = true
call_if_several (x ∷ y ∷ xs) e = is_call (shape_of e)

-- "begins with two underscores"
abbrev pub underscored : Letters → Bool
underscored [] = false
underscored (a ∷ []) = false
underscored (a ∷ b ∷ l) = eqb a 95 && eqb b 95

-- is a name `condact`?
unfoldable pub is_condact : List Letters → ℕ → Bool
unfolding bytes
is_condact names f = same_letters (bytes "condact") (letters_of names f)

-- a node of a sheet, with its clocks
module _ (names : List Letters) (sheet : Sheet) (n : ClockedNode) where
  -- of each part of each right side
  abbrev pub every_right : (Part → Bool) → Bool
  every_right test = all (λ e. every_part test e.right) n.node.equations

  -- the outputs and the locals
  abbrev pub own_names : List ℕ
  own_names = names_of (n.node.outputs ++ n.node.locals)

  -- "names are declared once, outputs and locals defined once, inputs and undeclared names never"
  unfoldable pub once : Bool
  once =
      distinct (names_of (declared n.node))
      && distinct (lefts n.node.equations) && all (λ x. among x (lefts n.node.equations)) own_names
      && all (λ x. among x own_names) (lefts n.node.equations)

  -- "each local without a clock is settled"
  unfoldable pub locals_settled : Bool
  unfolding settled clock_of
  locals_settled = all (λ x. not (no_clock n.clocking.names x) || settled (callees_of names sheet) n.node n.clocking.names x) (names_of n.node.locals)

  -- a call is not of `condact`
  abbrev pub not_condact : Part → Bool
  not_condact (reads x) = true
  not_condact (callee f) = not (is_condact names f)
  not_condact (computes h) = true

  -- "no call is of `condact`, and no node of the sheet has that name"
  unfoldable pub no_condact : Bool
  unfolding every_part is_condact
  no_condact = every_right not_condact && all (λ m. not (is_condact names m.name)) sheet.nodes

  -- "on a clock, several left names have a call itself as right side"
  unfoldable pub several_call : Bool
  several_call = all (λ e. is_base e.clock || call_if_several e.equation.left e.equation.right) n.clocking.equations

  -- a head that is no map or fold over an operator
  abbrev pub not_iterated : Head → Bool
  not_iterated (Head.map f k) = not (is_operator sheet.nodes f)
  not_iterated (Head.fold f k) = not (is_operator sheet.nodes f)
  not_iterated (Head.unary o) = true
  not_iterated (Head.binary o) = true
  not_iterated (Head.field x) = true
  not_iterated (Head.struct x fs) = true
  not_iterated (Head.cast a) = true
  not_iterated Head.if = true
  not_iterated Head.index = true
  not_iterated Head.tuple = true
  not_iterated Head.array = true

  -- a form is no map or fold over an operator
  abbrev pub over_no_operator : Part → Bool
  over_no_operator (reads x) = true
  over_no_operator (callee f) = true
  over_no_operator (computes h) = not_iterated h

  -- "no map or fold is over an operator"
  unfoldable pub no_iterated_operator : Bool
  unfolding every_part is_operator
  no_iterated_operator = every_right over_no_operator

  -- an undeclared name that is read does not begin with two underscores
  abbrev pub not_underscored : Part → Bool
  not_underscored (reads x) = is_declared n.node x || not (underscored (letters_of names x))
  not_underscored (callee f) = true
  not_underscored (computes h) = true

  -- "no undeclared name begins with two underscores"
  unfoldable pub no_underscored : Bool
  unfolding every_part
  no_underscored = every_right not_underscored

  -- "A node is *plain* when"
  pub record Plain : Type 0 where
    pub named-once : once ≡ true
    pub locals-settled : locals_settled ≡ true
    pub no-condact : no_condact ≡ true
    pub several-call : several_call ≡ true
    pub no-iterated-operator : no_iterated_operator ≡ true
    pub no-underscored : no_underscored ≡ true
