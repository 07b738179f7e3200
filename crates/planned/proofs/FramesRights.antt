-- A rewritten right side is its expression's tokens in a frame; what an expression is after rewriting.
-- Assumes nothing.
use Prim.Native.Nat.{ℕ, suc, ◌+◌}
use mathlib.Core.Path.{◌≡◌, refl, sym, ap}
use mathlib.Core.List.{List, [], ◌∷◌, ◌++◌, append-nil}
use mathlib.Core.Bool.{Bool, true, false}
use mathlib.Core.Option.{Option, none, some}
use native.Mathlib.Omega.{arith}
use lib.Dec.{eqb}
use lib.ListN.{length}
use Rattle.definitions.specs.declared.Token.{Token}
use Rattle.definitions.specs.Lists.{choose, or_else}
use Rattle.definitions.specs.Tree.{Ty, Declared, TypeDef, Expr, Exprs, Node}
use Rattle.definitions.specs.Clock.{Clock, is_base, parent}
use Rattle.definitions.specs.InferClocks.{Fault}
use Rattle.definitions.specs.Declock.{Shape, bare, other, calls, shape_of, declared, operand_type, if_of}
use Rattle.definitions.specs.Output.{expr_tokens, operand_tokens, form_tokens}
use Rattle.stateless.specs.Need.{Turn, is_bare, pre_turn}
use Rattle.stateless.specs.Yield.{Ids, Yield, type_or, left_tree, left_trees, gate_of, shape_after, pre_yield, arrow_tree, call_tree, yield, yields, several_tree, flagged_tree, right_yield}
use Rattle.stateless.specs.Faults.{fault_in, left_fault, lefts_fault, several_fault, flagged_fault, right_fault}
use Rattle.planned.specs.declared.Frame.{Frame}
use Rattle.planned.specs.Framed.{several_frame, flagged_frame, frame_of, LeadOut, Framed}

no-fault : (o u : Option Fault) → or_else o u ≡ none → (o ≡ none) × (u ≡ none)
no-fault none u h = (refl, h)
no-fault (some f) u h = absurd cc

module _ (types : List TypeDef) (nodes : List Node) (node : Node) (ids : Ids) where
  -- ---- what an expression is after rewriting
  pre-shape : (t : Turn) (c : Clock) (a : Ty) (y : Yield Expr) → shape_of (pre_yield types nodes node ids t c a y).value ≡ other
  pre-shape Turn.Keep c a y = refl
  pre-shape Turn.Hold c a y = refl
  pre-shape Turn.First c a y = refl
  pre-shape Turn.Gate c a y = refl

  arrow-shape : (c : Clock) (a b : Expr) → shape_of (arrow_tree types nodes node ids c a b) ≡ other
  arrow-shape c a b = go (is_base c)
    where
      go : (u : Bool) → shape_of (choose u (Expr.arrow a b) (if_of (Expr.var (ids.first c)) a b)) ≡ other
      go true = refl
      go false = refl

  call_shape : (o : Option (List Declared)) (c : Clock) (f : ℕ) (es : Exprs) → shape_of (call_tree types nodes node ids o c f es) ≡ elim o [ none ↦ calls f | some os ↦ calls ids.condact ]
  call_shape none c f es = refl
  call_shape (some os) c f es = refl

  pub yield-shape : (e : Expr) (c : Clock) (n : ℕ) → shape_of (yield types nodes node ids c n e).value ≡ shape_after types nodes node ids.condact c e
  unfolding yield shape_after
  yield-shape (Expr.const l w) c n = refl
  yield-shape (Expr.var x) c n = refl
  yield-shape (Expr.op h es) c n = refl
  yield-shape (Expr.pre e) c n = pre-shape (pre_turn c (is_bare e)) c (type_or (operand_type (declared node) e)) (yield types nodes node ids c n e)
  yield-shape (Expr.arrow a b) c n = arrow-shape c (yield types nodes node ids c n a).value (yield types nodes node ids c (yield types nodes node ids c n a).after b).value
  yield-shape (Expr.call f es) c n = call_shape (gate_of types nodes node c f) c f (yields types nodes node ids c c n es).value
  yield-shape (Expr.when k e) c n = yield-shape e (parent c) n
  yield-shape (Expr.merge x a b) c n = refl

  -- ---- a right side in its frame
  lefts-length : (xs : List ℕ) → length (operand_tokens (left_trees types nodes node xs)) ≡ length xs
  unfolding left_trees operand_tokens
  lefts-length [] = refl
  lefts-length (x ∷ xs) = ap suc (lefts-length xs)

  plain-framed : (xs : List ℕ) (a : List Token) → Framed types nodes node ids.condact Frame.Plain xs a a
  unfolding LeadOut
  plain-framed xs a = record { behind = []; leads-out = refl; whole = sym (append-nil a) }

  module _ (c : Clock) where
    choice-framed : (x : ℕ) (a : Expr) → left_fault types nodes node x ≡ none → Framed types nodes node ids.condact (Frame.Choose (ids.flag c)) (x ∷ []) (expr_tokens a) (expr_tokens (flagged_tree types nodes node ids c (x ∷ []) a))
    unfolding LeadOut expr_tokens form_tokens
    choice-framed x a h =
        record {
          behind = _;
          leads-out = record { name = x; alone = refl; faultless = h; same = refl };
          whole = rw (append-nil (expr_tokens (left_tree types nodes node x) ++ expr_tokens (Expr.pre (Expr.var x))));
        }

    gate-framed : (xs : List ℕ) (a : Expr) → lefts_fault types nodes node xs ≡ none
        → Framed types nodes node ids.condact (Frame.Gate (ids.flag c)) xs (expr_tokens a) (expr_tokens (Expr.call ids.condact (Exprs.and (Expr.var (ids.flag c)) (Exprs.and a (left_trees types nodes node xs)))))
    unfolding LeadOut expr_tokens form_tokens
    gate-framed xs a h =
        let n : suc (suc (length (operand_tokens (left_trees types nodes node xs)))) ≡ length xs + 2 = omega (arith, lefts-length xs) in
        record { behind = _; leads-out = record { faultless = h; same = refl }; whole = rw n }

    several-framed : (xs : List ℕ) (a : Expr) (u : Shape) → several_fault types nodes node ids.condact xs u ≡ none
        → Framed types nodes node ids.condact (several_frame ids.condact (ids.flag c) u) xs (expr_tokens a) (expr_tokens (several_tree types nodes node ids c xs a u))
    several-framed xs a bare h = absurd cc
    several-framed xs a other h = absurd cc
    several-framed xs a (calls f) h = go (eqb f ids.condact) h
      where
        gate : Expr
        gate = Expr.call ids.condact (Exprs.and (Expr.var (ids.flag c)) (Exprs.and a (left_trees types nodes node xs)))

        go : (b : Bool) → choose b none (lefts_fault types nodes node xs) ≡ none → Framed types nodes node ids.condact (choose b Frame.Plain (Frame.Gate (ids.flag c))) xs (expr_tokens a) (expr_tokens (choose b a gate))
        go true k = plain-framed xs (expr_tokens a)
        go false k = gate-framed xs a k

    flagged-framed : (xs : List ℕ) (a : Expr) (u : Shape) → shape_of a ≡ u → flagged_fault types nodes node ids.condact xs u ≡ none
        → Framed types nodes node ids.condact (flagged_frame ids.condact (ids.flag c) xs u) xs (expr_tokens a) (expr_tokens (flagged_tree types nodes node ids c xs a))
    flagged-framed [] a u i h = rw i (several-framed [] a u h)
    flagged-framed (x ∷ []) a u i h = choice-framed x a h
    flagged-framed (x ∷ y ∷ xs) a u i h = rw i (several-framed (x ∷ y ∷ xs) a u h)

    module _ (xs : List ℕ) (n : ℕ) (e : Expr) (free : right_fault types nodes node ids.condact c xs e ≡ none) where
      -- THE LAW: its tokens are its expression's in its frame
      pub right-framed : Framed types nodes node ids.condact (frame_of (is_base c) ids.condact (ids.flag c) xs (shape_after types nodes node ids.condact c e)) xs
          (expr_tokens (yield types nodes node ids c n e).value) (expr_tokens (right_yield types nodes node ids c xs n e).value)
      unfolding right_fault right_yield
      right-framed = go (is_base c) (no-fault (fault_in types nodes node c e) (choose (is_base c) none (flagged_fault types nodes node ids.condact xs u)) free).1
        where
          u : Shape
          u = shape_after types nodes node ids.condact c e

          a : Expr
          a = (yield types nodes node ids c n e).value

          go : (b : Bool) → choose b none (flagged_fault types nodes node ids.condact xs u) ≡ none
              → Framed types nodes node ids.condact (frame_of b ids.condact (ids.flag c) xs u) xs (expr_tokens a) (expr_tokens (choose b a (flagged_tree types nodes node ids c xs a)))
          go true k = plain-framed xs (expr_tokens a)
          go false k = flagged-framed xs a u (yield-shape e c n) k
