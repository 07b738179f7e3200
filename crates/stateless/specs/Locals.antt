-- The rewritten node by the ids of its new names: its new locals with their equations, then the old equations.
use Rattle.std.specs.Prelude.{ℕ, ◌<◌, ◌≡◌, List, [], ◌∷◌, ◌++◌, map, true, get_or}
use Rattle.definitions.specs.declared.Primitive.{Primitive}
use Rattle.definitions.specs.Lists.{choose, any, numbered}
use Rattle.definitions.specs.Tree.{Ty, Declared, Expr, Equation, Node}
use Rattle.definitions.specs.Clock.{Clock, base, ◌↓◌, is_base, same_clock}
use Rattle.definitions.specs.Declock.{Stem, ck, first, hold, Hold, clock_place, true_of, not_of, and_of, condition_expr}
use Rattle.stateless.specs.Yield.{Ids}

-- ids by tables: the id of the flag of a clock stands at the clock's place among the clocks with flags, that of a hold at its number
abbrev pub ids_in : List Clock → List Clock → List ℕ → List ℕ → List ℕ → ℕ → Ids
ids_in flags firsts flag_ids first_ids hold_ids condact =
    record {
      flag = λ c. get_or flag_ids (clock_place c flags) 0;
      first = λ c. get_or first_ids (clock_place c firsts) 0;
      hold = λ j. get_or hold_ids j 0;
      condact = condact;
    }

-- these ids are those of new names by stem and number, wherever rewriting uses one: for the clocks with flags, and for n holds
pub record Agree (flags firsts : List Clock) (n : ℕ) (new : Stem → ℕ → ℕ) (condact : ℕ) (ids : Ids) : Type 0 where
  pub flags-agree : (c : Clock) → any (same_clock c) flags ≡ true → ids.flag c ≡ new ck (clock_place c flags)
  pub firsts-agree : (c : Clock) → any (same_clock c) firsts ≡ true → ids.first c ≡ new first (clock_place c firsts)
  pub holds_agree : (j : ℕ) → j < n → ids.hold j ≡ new hold j
  pub condact-agrees : ids.condact ≡ condact

-- a new local with its equation
pub record Local : Type 0 where
  pub name : ℕ
  pub type : Ty
  pub right : Expr

module _ (ids : Ids) where
  -- a clock's condition, and its parent's flag where the parent is not base
  abbrev pub activation_by : Clock → Expr
  activation_by base = true_of
  activation_by (c ↓ k) = choose (is_base c) (condition_expr k) (and_of (Expr.var (ids.flag c)) (condition_expr k))

  -- true until the clock has been on at a tick before
  abbrev pub first_tick_by : Clock → Expr
  first_tick_by c = Expr.arrow true_of (and_of (Expr.pre (Expr.var (ids.first c))) (not_of (Expr.pre (Expr.var (ids.flag c)))))

  -- the activation flags and the first-tick flags of clocks in chain order, and the holds as made
  abbrev pub flag_locals : List Clock → List Local
  flag_locals cs = map (λ c. record { name = ids.flag c; type = Ty.primitive Primitive.Bool; right = activation_by c }) cs

  abbrev pub first_locals : List Clock → List Local
  first_locals cs = map (λ c. record { name = ids.first c; type = Ty.primitive Primitive.Bool; right = first_tick_by c }) cs

  abbrev pub hold_locals : ℕ → List Hold → List Local
  hold_locals n hs = numbered (λ j h. record { name = ids.hold j; type = h.type; right = h.right }) n hs

-- a new local as declared, and its equation
abbrev pub local_declared : Local → Declared
local_declared l = record { name = l.name; type = l.type }

abbrev pub local_equation : Local → Equation
local_equation l = record { left = l.name ∷ []; right = l.right }

-- the node with its new locals behind its own, and the old equations behind theirs
unfoldable pub with_locals : Node → List Local → List Equation → Node
with_locals n locals old =
    record {
      name = n.name;
      kind = n.kind;
      inputs = n.inputs;
      outputs = n.outputs;
      locals = n.locals ++ map local_declared locals;
      equations = map local_equation locals ++ old;
      probes = n.probes;
    }
