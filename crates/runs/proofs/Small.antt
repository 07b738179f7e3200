-- For the witnesses: numbers as values, small trees, runs over three ticks.
use mathlib.Core.Path.{◌≡◌, refl}
use mathlib.Core.Bool.{Bool, true, false, not, ◌&&◌}
use mathlib.Core.List.{List, [], ◌∷◌, map}
use Prim.Native.Nat.{ℕ, zero, suc, ◌+◌, ◌<◌}
use Prim.Native.String.{String}
use native.Mathlib.Omega.{arith}
use lib.Dec.{eqb}
use lib.ListN.{length, get_or}
use Rattle.definitions.specs.declared.BinOp.{BinOp}
use Rattle.definitions.specs.declared.Primitive.{Primitive}
use Rattle.definitions.specs.declared.Literal.{Literal}
use Rattle.definitions.specs.declared.NodeKind.{NodeKind}
use Rattle.definitions.specs.Lists.{choose, Letters, bytes}
use Rattle.definitions.specs.Tree.{Ty, Declared, Head, Expr, Exprs, Equation, Node, Sheet}
use Rattle.definitions.specs.Clock.{Clock, base, ◌↓◌, is_on}
use Rattle.definitions.specs.Declock.{true_of, not_of, and_of}
use Rattle.runs.specs.Run.{Meaning, Env}

-- true is 1
abbrev is_one : ℕ → Bool
is_one v = eqb v 1

abbrev binary : BinOp → ℕ → ℕ → ℕ
binary BinOp.And v w = choose (is_one v && is_one w) 1 0
binary BinOp.Or v w = v + w
binary BinOp.Xor v w = v + w
binary BinOp.Implies v w = v + w
binary BinOp.Eq v w = v + w
binary BinOp.Neq v w = v + w
binary BinOp.Lt v w = v + w
binary BinOp.Le v w = v + w
binary BinOp.Gt v w = v + w
binary BinOp.Ge v w = v + w
binary BinOp.Add v w = v + w
binary BinOp.Sub v w = v + w
binary BinOp.Mul v w = v + w
binary BinOp.Div v w = v + w
binary BinOp.Mod v w = v + w
binary BinOp.BitAnd v w = v + w
binary BinOp.BitOr v w = v + w
binary BinOp.BitXor v w = v + w
binary BinOp.Shl v w = v + w
binary BinOp.Shr v w = v + w

abbrev compute : Head → List ℕ → ℕ
compute (Head.unary o) vs = choose (is_one (get_or vs 0 0)) 0 1
compute (Head.binary o) vs = binary o (get_or vs 0 0) (get_or vs 1 0)
compute Head.if vs = choose (is_one (get_or vs 0 0)) (get_or vs 1 0) (get_or vs 2 0)
compute (Head.field x) vs = 0
compute (Head.struct x fs) vs = 0
compute (Head.cast a) vs = 0
compute Head.index vs = 0
compute Head.tuple vs = 0
compute Head.array vs = 0
compute (Head.map f k) vs = 0
compute (Head.fold f k) vs = 0

abbrev constant : Literal → ℕ
constant (Literal.Bool v) = v
constant (Literal.Int v) = v
constant (Literal.Float v) = v
constant (Literal.Char v) = v

-- and and not of numbers, every other binary operator is plus; an operator counts its ticks
abbrev pub numbers : Meaning ℕ
numbers = record {
  is_true = is_one;
  const = λ l w. constant l;
  form = compute;
  function = λ f vs. 0;
  operator = λ f h. length h;
  part = λ j v. v;
  together = λ vs. 0;
  undeclared = λ x. 0;
  one-true = refl;
  not-law = λ v. nots (is_one v);
  and-law = λ v w. ands (is_one v && is_one w);
  if-law = λ u v w. refl;
}
  where
    nots : (b : Bool) → is_one (choose b 0 1) ≡ not b
    nots true = refl
    nots false = refl

    ands : (b : Bool) → is_one (choose b 1 0) ≡ b
    ands true = refl
    ands false = refl

-- the values of names over three ticks, a row a name, by id
abbrev pub rows : List (List ℕ) → Env ℕ
rows rs x t = get_or (get_or rs x []) t 0

-- of each of three ticks
abbrev pub three : (P : ℕ → Type 0) → P 0 → P 1 → P 2 → (t : ℕ) → t < 3 → P t
three P a b c zero l = a
three P a b c (suc zero) l = b
three P a b c (suc (suc zero)) l = c
three P a b c (suc (suc (suc t))) l = absurd (omega arith)

-- trees
abbrev pub v : ℕ → Expr
v = Expr.var

abbrev pub int0 : Expr
int0 = Expr.const (Literal.Int 0) 0

infixl 80 ◌plus◌
abbrev pub ◌plus◌ : Expr → Expr → Expr
a plus b = Expr.op (Head.binary BinOp.Add) (Exprs.and a (Exprs.and b Exprs.end))

infixl 70 ◌≔◌
abbrev pub ◌≔◌ : ℕ → Expr → Equation
x ≔ e = record { left = x ∷ []; right = e }

-- a held name: its default before the first tick
abbrev pub or_held : Expr → ℕ → Expr
or_held d x = Expr.arrow d (Expr.pre (v x))

-- the first-tick flag f of a clock with activation flag a
abbrev pub first_of : ℕ → ℕ → Expr
first_of f a = Expr.arrow true_of (and_of (Expr.pre (v f)) (not_of (Expr.pre (v a))))

abbrev pub int : ℕ → Declared
int x = record { name = x; type = Ty.primitive Primitive.Int32 }

abbrev pub boolean : ℕ → Declared
boolean x = record { name = x; type = Ty.primitive Primitive.Bool }

-- the operator with id 0
abbrev pub operator : List Declared → List Declared → List Declared → List Equation → Node
operator ins outs locals es = record { name = 0; kind = NodeKind.Operator; inputs = ins; outputs = outs; locals = locals; equations = es; probes = [] }

abbrev pub sheet_of : List Node → Sheet
sheet_of ns = record { types = []; nodes = ns }

-- the clock of c, whose id is 2
abbrev pub on_c : Clock
on_c = base ↓ is_on 2

unfoldable pub lettered : List String → List Letters
unfolding bytes
lettered l = map bytes l
