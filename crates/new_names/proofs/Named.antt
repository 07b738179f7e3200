-- The clocks that rewriting needs flags for are made of the node's names. Assumes nothing.
use Prim.Native.Nat.{ℕ}
use mathlib.Core.Path.{refl}
use mathlib.Core.List.Memᴰ
use mathlib.Core.List.{List, [], ◌∷◌}
use Rattle.definitions.specs.Tree.{TypeDef, Expr, Exprs, Node}
use Rattle.definitions.specs.Clock.{Clock, ◌↓◌, parent, is_on, is_not}
use Rattle.definitions.specs.InferClocks.{Clocked}
use Rattle.definitions.specs.Declock.{operator_outputs}
use Rattle.shapes.specs.Shape.{All, Shaped, Shapeds}
use Rattle.shapes.proofs.Facts.{all_nil}
use Rattle.shapes.proofs.ClockNames.{NamedClock, NamedEquation}
use Rattle.shapes.proofs.Added.{add-all}
use Rattle.shapes.proofs.RewriteShape.{parents-named, parent-named}
use Rattle.defaults.specs.Has.{is_some}
use Rattle.stateless.specs.Need.{Turn, Needs, settled, pre_turn, arrow_turn, call_turn, is_bare, needed, needed_all}
use Rattle.stateless.specs.Whole.{no_needs, right_needs, old_needs}
use Rattle.stateless.proofs.Kept.{KeptFlagged, right-kept}

module _ (N : ℕ) where
  -- the ids in the clocks with flags are below N
  pub record NamedNeeds (y : Needs) : Type 0 where
    pub flags : All (NamedClock N) y.flags
    pub firsts : All (NamedClock N) y.firsts

  pub named_none : NamedNeeds no_needs
  named_none = record { flags = all_nil (NamedClock N); firsts = all_nil (NamedClock N) }

  module _ (c : Clock) (o : NamedClock N c) where
    named-flagged : KeptFlagged NamedNeeds c
    named-flagged =
        record {
          flag = λ y h. record { flags = parents-named N c y.flags o h.flags; firsts = h.firsts };
          gate = λ y h. record { flags = parents-named N c y.flags o h.flags; firsts = h.firsts };
        }

    named-settled : (t : Turn) (y : Needs) → NamedNeeds y → NamedNeeds (settled t c y)
    named-settled Turn.Keep y h = h
    named-settled Turn.Hold y h = record { flags = parents-named N c y.flags o h.flags; firsts = h.firsts }
    named-settled Turn.First y h = record { flags = parents-named N c y.flags o h.flags; firsts = add-all (NamedClock N) c y.firsts o h.firsts }
    named-settled Turn.Gate y h = named-flagged.gate y h

  module _ (nodes : List Node) where
    mutual
      unfolding needed Shaped

      named-needed : (e : Expr) (c : Clock) (y : Needs) → NamedClock N c → Shaped N e → NamedNeeds y → NamedNeeds (needed nodes c e y)
      named-needed (Expr.const l w) c y o s h = h
      named-needed (Expr.var x) c y o s h = h
      named-needed (Expr.op k es) c y o s h = named-all es c c y o o s.1 h
      named-needed (Expr.pre e) c y o s h = named-settled c o (pre_turn c (is_bare e)) (needed nodes c e y) (named-needed e c y o s h)
      named-needed (Expr.arrow a b) c y o s h = named-settled c o (arrow_turn c) (needed nodes c b (needed nodes c a y)) (named-needed b c (needed nodes c a y) o s.1 (named-needed a c y o s.0 h))
      named-needed (Expr.call f es) c y o s h = named-settled c o (call_turn c (is_some (operator_outputs nodes f))) (needed_all nodes c c es y) (named-all es c c y o o s.0 h)
      named-needed (Expr.when k e) c y o s h = named-needed e (parent c) y (parent-named N c o) s.0 h
      named-needed (Expr.merge x a b) c y o s h = named-needed b (c ↓ is_not x) (needed nodes (c ↓ is_on x) a y) (s.2, o) s.1 (named-needed a (c ↓ is_on x) y (s.2, o) s.0 h)

      named-all : (es : Exprs) (c d : Clock) (y : Needs) → NamedClock N c → NamedClock N d → Shapeds N es → NamedNeeds y → NamedNeeds (needed_all nodes c d es y)
      named-all Exprs.end c d y o p s h = h
      named-all (Exprs.and e es) c d y o p s h = named-all es d d (needed nodes c e y) p p s.1 (named-needed e c y o s.0 h)

  module _ (types : List TypeDef) (nodes : List Node) (node : Node) (condact : ℕ) where
    -- THE LAW: what a node's equations need
    pub named-old : (cs : List Clocked) (y : Needs) → All (NamedEquation N) cs → NamedNeeds y → NamedNeeds (old_needs types nodes node condact cs y)
    unfolding old_needs
    named-old [] y s h = h
    named-old (e ∷ es) y s h =
        let c = e.clock in
        let o = s e (Memᴰ.head refl) in
        named-old es (right_needs types nodes node condact c e.equation.left e.equation.right y) (λ d m. s d (Memᴰ.tail m))
        (right-kept NamedNeeds condact c (named-flagged c o.0) types nodes node e.equation.left e.equation.right y (named-needed nodes e.equation.right c y o.0 o.1.0 h))
