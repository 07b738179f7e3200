-- The clocks of a shaped node are made of its names, so their conditions' ids are below the same bound.
use mathlib.Core.Bool.{Bool, true, false}
use mathlib.Core.List.{Memᴰ}
use mathlib.Core.Option.{none, some}
use Prim.Native.Nat.{ℕ, ◌<◌}
use lib.Dec.{ltb}
use Rattle.definitions.specs.declared.Condition.{Condition}
use Rattle.definitions.specs.Lists.{choose, any, join, numbered}
use Rattle.definitions.specs.Tree.{Expr, Exprs, Equation, Node}
use Rattle.definitions.specs.Clock.{Clock, base, ◌↓◌, depth, deepest}
use Rattle.definitions.specs.InferClocks.{deep, formed, Clocks, clock_of, Natural, natural, naturals, ◌or◌, condition_over, parent_of, Clocked, Clocking, clocking, inferred, clocked_by, check_equation, is_too_deep}
use Rattle.shapes.proofs.Facts.{All}
use Rattle.shapes.proofs.Inference.{Forms, forms-after, SomeClock, Known, clock_of-known, inferred-known, clocked_by-known, KnownEquation}
use Rattle.shapes.specs.Shape.{Shaped, Shapeds, ShapedEquation}

module _ (N : ℕ) where
  -- the names of a clock's conditions are below N
  abbrev pub NamedClock : Clock → Type 0
  NamedClock base = Unit {0}
  NamedClock (c ↓ k) = (k.name < N) × NamedClock c

  abbrev NamedNatural : Natural → Type 0
  NamedNatural a = Forms (Unit {0}) (SomeClock NamedClock) a

  or-named : (a b : Natural) → NamedNatural a → NamedNatural b → NamedNatural (a or b)
  or-named deep b h g = tt
  or-named (formed none) b h g = g
  or-named (formed (some c)) b h g = h

  over-named : (k : Condition) → k.name < N → (a : Natural) → NamedNatural a → NamedNatural (condition_over k a)
  over-named k w deep h = tt
  over-named k w (formed none) h = tt
  over-named k w (formed (some c)) h = go (ltb (depth c) deepest)
    where
      go : (u : Bool) → NamedNatural (choose u (formed (some (c ↓ k))) deep)
      go true = (w, h)
      go false = tt

  parent-named : (a : Natural) → NamedNatural a → NamedNatural (parent_of a)
  parent-named deep h = tt
  parent-named (formed none) h = tt
  parent-named (formed (some base)) h = tt
  parent-named (formed (some (c ↓ k))) h = h.1

  module _ (cl : Clocks) (known : Known NamedClock cl) where
    mutual
      unfolding natural Shaped

      natural-named : (e : Expr) → Shaped N e → NamedNatural (natural cl e)
      natural-named (Expr.const l w) s = tt
      natural-named (Expr.var x) s = clock_of-known NamedClock cl known x
      natural-named (Expr.op h es) s = naturals-named es s.1
      natural-named (Expr.pre e) s = natural-named e s
      natural-named (Expr.arrow a b) s = or-named (natural cl a) (natural cl b) (natural-named a s.0) (natural-named b s.1)
      natural-named (Expr.call f es) s = naturals-named es s.0
      natural-named (Expr.when k e) s = over-named k s.1 (natural cl e or formed (clock_of cl k.name) or formed (some base)) (or-named (natural cl e or formed (clock_of cl k.name)) (formed (some base)) (or-named (natural cl e) (formed (clock_of cl k.name)) (natural-named e s.0) (clock_of-known NamedClock cl known k.name)) tt)
      natural-named (Expr.merge x a b) s = or-named (formed (clock_of cl x) or parent_of (natural cl a)) (parent_of (natural cl b))
          (or-named (formed (clock_of cl x)) (parent_of (natural cl a)) (clock_of-known NamedClock cl known x) (parent-named (natural cl a) (natural-named a s.0))) (parent-named (natural cl b) (natural-named b s.1))

      naturals-named : (es : Exprs) → Shapeds N es → NamedNatural (naturals cl es)
      naturals-named Exprs.end s = tt
      naturals-named (Exprs.and e es) s = or-named (natural cl e) (naturals cl es) (natural-named e s.0) (naturals-named es s.1)

  -- an equation with its clock
  abbrev pub NamedEquation : Clocked → Type 0
  NamedEquation e = NamedClock e.clock × ShapedEquation N e.equation

  pub clocking-named : (n : Node) → All (ShapedEquation N) n.equations → Forms (Unit {0}) (λ k. All NamedEquation k.equations) (clocking n)
  unfolding clocking
  clocking-named n s =
      forms-after (Unit {0}) (λ r. Known NamedClock r.clocks) _ (inferred n) _ (inferred-known (Unit {0}) NamedClock tt n fact) (λ r h.
      forms-after (Unit {0}) (All (KnownEquation (Unit {0}) NamedClock tt n fact)) _ (clocked_by r.clocks n.equations) _ (clocked_by-known (Unit {0}) NamedClock tt n fact r.clocks h) (λ es q.
      go (record { passes = r.passes; names = r.clocks; equations = es; findings = join (numbered (check_equation n r.clocks) 0 es) }) (λ e m. ((q e m).0, s e.equation (q e m).1)) (any is_too_deep (join (numbered (check_equation n r.clocks) 0 es)))))
    where
      fact : (e : Equation) → Memᴰ e n.equations → (cl : Clocks) → Known NamedClock cl → Forms (Unit {0}) (SomeClock NamedClock) (natural cl e.right)
      fact e m cl k = natural-named cl k e.right (s e m).0

      go : (k : Clocking) → All NamedEquation k.equations → (u : Bool) → Forms (Unit {0}) (λ k. All NamedEquation k.equations) (choose u deep (formed k))
      go k h true = tt
      go k h false = h
