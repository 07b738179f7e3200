-- A plan made under one id of `condact` serves under another, as every id of the input is of `condact` in both or in neither.
-- Assumes nothing.
use Prim.Native.Nat.{ℕ, ◌<◌}
use mathlib.Core.Path.{◌≡◌, refl, ap, ◌∙◌}
use mathlib.Core.Bool.{Bool}
use mathlib.Core.List.Memᴰ
use mathlib.Core.List.{List, [], ◌∷◌}
use lib.Dec.{eqb}
use Rattle.definitions.specs.Lists.{choose}
use Rattle.definitions.specs.Tree.{TypeDef, Expr, Node}
use Rattle.definitions.specs.Clock.{Clock, is_base}
use Rattle.definitions.specs.InferClocks.{Clocked}
use Rattle.definitions.specs.Declock.{Shape}
use Rattle.shapes.specs.Shape.{Shaped, ShapedEquation}
use Rattle.shapes.proofs.Facts.{All}
use Rattle.stateless.specs.Yield.{Ids, shape_after}
use Rattle.stateless.proofs.Condact.{Alike, both-bare, both-other, both-call, both-gate, shape-alike, itself}
use Rattle.planned.specs.Writes.{Writer}
use Rattle.planned.specs.declared.Frame.{Frame}
use Rattle.planned.specs.Framed.{several_frame, flagged_frame, frame_of}
use Rattle.planned.specs.Planned.{EquationsPlanned}

module _ (types : List TypeDef) (nodes : List Node) (node : Node) (N k k' : ℕ) (same : (f : ℕ) → f < N → eqb f k ≡ eqb f k') where
  several-frame : (flag : ℕ) {u v : Shape} → Alike types nodes node N k k' same u v → several_frame k flag u ≡ several_frame k' flag v
  several-frame flag both-bare = refl
  several-frame flag both-other = refl
  several-frame flag (both-call {f} h) = ap (λ (b : Bool). choose b Frame.Plain (Frame.Gate flag)) (same f h)
  several-frame flag both-gate = ap (λ (b : Bool). choose b Frame.Plain (Frame.Gate flag)) (itself types nodes node N k k' same)

  flagged-frame : (flag : ℕ) (xs : List ℕ) {u v : Shape} → Alike types nodes node N k k' same u v → flagged_frame k flag xs u ≡ flagged_frame k' flag xs v
  flagged-frame flag [] h = several-frame flag h
  flagged-frame flag (x ∷ []) h = refl
  flagged-frame flag (x ∷ y ∷ xs) h = several-frame flag h

  frame-alike : (c : Clock) (flag : ℕ) (xs : List ℕ) (e : Expr) → Shaped N e → frame_of (is_base c) k flag xs (shape_after types nodes node k c e) ≡ frame_of (is_base c) k' flag xs (shape_after types nodes node k' c e)
  frame-alike c flag xs e h = ap (λ (f : Frame). choose (is_base c) Frame.Plain f) (flagged-frame flag xs (shape-alike types nodes node N k k' same e c h))

module _ (M : ℕ) (gs vs : List ℕ) (W : Writer) (plan : List ℕ) (N k k' : ℕ) (same : (f : ℕ) → f < N → eqb f k ≡ eqb f k') (ids : Ids) where
  -- THE LAW
  pub planned-alike : (es : List Clocked) (n p q : ℕ) → All (λ e. ShapedEquation N e.equation) es → EquationsPlanned M gs vs W plan k ids n es p q → EquationsPlanned M gs vs W plan k' ids n es p q
  unfolding EquationsPlanned
  planned-alike [] n p q a h = h
  planned-alike (e ∷ es) n p q a h = (
    h.0,
    record {
      stands = h.1.stands;
      framed = h.1.framed ∙ frame-alike W.types W.nodes W.node N k k' same e.clock (ids.flag e.clock) e.equation.left e.equation.right (a e (Memᴰ.head refl)).0;
      written = h.1.written;
    },
    planned-alike es _ h.0 q (λ d m. a d (Memᴰ.tail m)) h.2,
  )
