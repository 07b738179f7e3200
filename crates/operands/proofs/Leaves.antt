-- A leaf by its first token: which tree it is, and where it ends.
-- Assumes nothing.
use Prim.Native.Nat.{ℕ, ◌+◌}
use Rattle.std.specs.Prelude as rust
use Rattle.std.specs.Prelude.{Some, None}
use mathlib.Core.Path.{◌≡◌, refl, sym}
use mathlib.Core.List.{List}
use mathlib.Core.Bool.{Bool, true, false}
use mathlib.Core.Option.{some}
use native.Mathlib.Omega.{arith}
use lib.Dec.{eqb, ltb}
use lib.ListN.{length, get_or}
use borrow.Author.Tests.{eqb-true, lt-ltb}
use Rattle.definitions.specs.declared.Literal.{Literal}
use Rattle.definitions.specs.declared.ExprToken.{ExprToken}
use Rattle.definitions.specs.Lists.{choose}
use Rattle.definitions.specs.Bytes.{tokens}
use Rattle.definitions.specs.Tokens.{given, expr_token_of}
use Rattle.definitions.specs.Tree.{Expr}
use Rattle.definitions.specs.Reading.{got}
use Rattle.definitions.specs.Grammar.{high, constant, form}
use Rattle.grammar.proofs.Laws.{tokens-length, wrap-got}
use Rattle.operands.specs.declared.Leaf.{Leaf}
use Rattle.operands.specs.Leaf.{leaf_at, name_leaf, constant_leaf}
use Rattle.layout.specs.Spans.{past_in}
use Rattle.operands.specs.Spread.{tree}
use Rattle.operands.proofs.Deeper.{tree-head}
use Rattle.operands.proofs.Laws.{token-there, high-place}

module _ (M : ℕ) (gs vs : List ℕ) (same : length vs ≡ length gs) (p : ℕ) (e : Expr) (q : ℕ) (g : tree M (tokens gs vs) p ≡ got e q) where
  abbrev read : (t : ExprToken) × (expr_token_of M (get_or gs p 0) (get_or vs p 0) ≡ some t) × (form M t (tree M) (tokens gs vs) (p + 1) ≡ got e q)
  read = let a = tree-head M (tokens gs vs) p e q g in (a.0, token-there (expr_token_of M) gs vs same p a.0 (p + 1) a.1, a.2)

  given_is : (b : Bool) (t u : ExprToken) → given b u ≡ some t → u ≡ t
  given_is true t u h = cc
  given_is false t u h = absurd cc

  name-tree : get_or gs p 0 ≡ 54 → (e ≡ Expr.var (get_or vs p 0)) × (q ≡ p + 1)
  unfolding expr_token_of form
  name-tree i =
      let r = read in
      let t = given_is (ltb (get_or vs p 0) M) r.0 (ExprToken.Var (get_or vs p 0)) (rw i at r.1) in
      let f : got (Expr.var (get_or vs p 0)) (p + 1) ≡ got e q = rw (sym t) at r.2 in
      let a : e ≡ Expr.var (get_or vs p 0) = cc in
      let b : q ≡ p + 1 = cc in
      (a, b)

  -- a constant that ends there
  abbrev pub IsConstant : ℕ → Type 0
  IsConstant s = (l : Literal) × (w : ℕ) × (e ≡ Expr.const l w) × (q ≡ s)

  short-tree : (l : Literal) → got (Expr.const l 0) (p + 1) ≡ got e q → IsConstant (p + 1)
  short-tree l f =
      let a : e ≡ Expr.const l 0 = cc in
      let b : q ≡ p + 1 = cc in
      (l, 0, a, b)

  bool-tree : get_or gs p 0 ≡ 50 → IsConstant (p + 1)
  unfolding expr_token_of form constant
  bool-tree i =
      let r = read in
      let t = given_is (ltb (get_or vs p 0) 2) r.0 (ExprToken.Const (Literal.Bool (get_or vs p 0))) (rw i at r.1) in
      short-tree (Literal.Bool (get_or vs p 0)) (rw (sym t) at r.2)

  char-tree : get_or gs p 0 ≡ 53 → IsConstant (p + 1)
  unfolding expr_token_of form constant
  char-tree i =
      let r = read in
      let t = given_is (ltb (get_or vs p 0) 256) r.0 (ExprToken.Const (Literal.Char (get_or vs p 0))) (rw i at r.1) in
      short-tree (Literal.Char (get_or vs p 0)) (rw (sym t) at r.2)

  wide-tree : (l : Literal) (w : ℕ) → high (tokens gs vs) (p + 1) ≡ got w q → e ≡ Expr.const l w → IsConstant (past_in (length gs) (p + 1))
  wide-tree l w h i =
      let a = high-place (tokens gs vs) (p + 1) w q h in
      let b = tokens-length gs vs same in
      (l, w, i, rw (lt-ltb (p + 1) (length gs) (omega (arith, a.1, b))) a.0)

  int-tree : get_or gs p 0 ≡ 51 → IsConstant (past_in (length gs) (p + 1))
  unfolding expr_token_of form constant
  int-tree i =
      let r = read in
      let t : ExprToken.Const (Literal.Int (get_or vs p 0)) ≡ r.0 = given_is true r.0 (ExprToken.Const (Literal.Int (get_or vs p 0))) (rw i at r.1) in
      let a = wrap-got (high (tokens gs vs) (p + 1)) (λ w. Expr.const (Literal.Int (get_or vs p 0)) w) e q (rw (sym t) at r.2) in
      wide-tree (Literal.Int (get_or vs p 0)) a.0 a.1 a.2

  float-tree : get_or gs p 0 ≡ 52 → IsConstant (past_in (length gs) (p + 1))
  unfolding expr_token_of form constant
  float-tree i =
      let r = read in
      let t : ExprToken.Const (Literal.Float (get_or vs p 0)) ≡ r.0 = given_is true r.0 (ExprToken.Const (Literal.Float (get_or vs p 0))) (rw i at r.1) in
      let a = wrap-got (high (tokens gs vs) (p + 1)) (λ w. Expr.const (Literal.Float (get_or vs p 0)) w) e q (rw (sym t) at r.2) in
      wide-tree (Literal.Float (get_or vs p 0)) a.0 a.1 a.2

  -- what its name and its end say
  abbrev pub SaysOf : rust.Option ℕ → ℕ → Type 0
  SaysOf (Some x) s = (e ≡ Expr.var x) × (q ≡ s)
  SaysOf None s = IsConstant s

  -- THE LAW: what a leaf says of the tree that was read there
  abbrev pub Says : rust.Option Leaf → Type 0
  Says (Some l) = SaysOf l.name l.end
  Says None = Unit

  pub leaf-says : (k : rust.Option Leaf) → k ≡ leaf_at (length gs) (get_or gs p 0) (get_or vs p 0) p → Says k
  leaf-says k i = rw i (at54 (eqb (get_or gs p 0) 54) refl)
    where
      at53 : (b : Bool) → eqb (get_or gs p 0) 53 ≡ b → Says (choose b (Some (constant_leaf (p + 1))) None)
      at53 true h = char-tree (eqb-true _ 53 h)
      at53 false h = tt

      at52 : (b : Bool) → eqb (get_or gs p 0) 52 ≡ b → Says (choose b (Some (constant_leaf (past_in (length gs) (p + 1)))) (choose (eqb (get_or gs p 0) 53) (Some (constant_leaf (p + 1))) None))
      at52 true h = float-tree (eqb-true _ 52 h)
      at52 false h = at53 (eqb (get_or gs p 0) 53) refl

      at51 : (b : Bool) → eqb (get_or gs p 0) 51 ≡ b → Says (choose b (Some (constant_leaf (past_in (length gs) (p + 1)))) (choose (eqb (get_or gs p 0) 52) (Some (constant_leaf (past_in (length gs) (p + 1)))) (choose (eqb (get_or gs p 0) 53) (Some (constant_leaf (p + 1))) None)))
      at51 true h = int-tree (eqb-true _ 51 h)
      at51 false h = at52 (eqb (get_or gs p 0) 52) refl

      at50 : (b : Bool) → eqb (get_or gs p 0) 50 ≡ b → Says (choose b (Some (constant_leaf (p + 1))) (choose (eqb (get_or gs p 0) 51) (Some (constant_leaf (past_in (length gs) (p + 1)))) (choose (eqb (get_or gs p 0) 52) (Some (constant_leaf (past_in (length gs) (p + 1)))) (choose (eqb (get_or gs p 0) 53) (Some (constant_leaf (p + 1))) None))))
      at50 true h = bool-tree (eqb-true _ 50 h)
      at50 false h = at51 (eqb (get_or gs p 0) 51) refl

      at54 : (b : Bool) → eqb (get_or gs p 0) 54 ≡ b → Says (choose b (Some (name_leaf (get_or vs p 0) (p + 1))) (choose (eqb (get_or gs p 0) 50) (Some (constant_leaf (p + 1))) (choose (eqb (get_or gs p 0) 51) (Some (constant_leaf (past_in (length gs) (p + 1)))) (choose (eqb (get_or gs p 0) 52) (Some (constant_leaf (past_in (length gs) (p + 1)))) (choose (eqb (get_or gs p 0) 53) (Some (constant_leaf (p + 1))) None)))))
      at54 true h = name-tree (eqb-true _ 54 h)
      at54 false h = at50 (eqb (get_or gs p 0) 50) refl
