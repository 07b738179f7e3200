-- A walk over parts, from one state of the tables to another.
use Rattle.std.specs.Prelude.{ℕ, ◌≤◌, ◌<◌, ◌≡◌, List, length, Result}
use Rattle.std.proofs.Math.Option.{Option}
use Rattle.definitions.specs.Bytes.{tokens}
use Rattle.definitions.specs.Lists.{or_else}
use Rattle.definitions.specs.Tokens.{TagValue}
use Rattle.definitions.specs.Tree.{TypeDef, Expr, Exprs, Node}
use Rattle.definitions.specs.Clock.{Clock}
use Rattle.definitions.specs.InferClocks.{Fault}
use Rattle.findings.specs.declared.Fault as value
use Rattle.definitions.specs.Declock.{Hold, declared}
use Rattle.index.specs.Callees.{NodesStand, TypesStand}
use Rattle.typing.specs.Found.{Declares}
use Rattle.stateless.specs.Need.{Needs, needed, needed_all}
use Rattle.stateless.specs.Yield.{Ids}
use Rattle.stateless.specs.Faults.{fault_in, fault_among}
use Rattle.skeleton.specs.Lies.{Frame, Lies, LiesAt}
use Rattle.skeleton.specs.Sites.{Sited}
use Rattle.plan.specs.Tables.{Arrays, Tables, Begun}
use Rattle.plan.specs.Planned.{Ground, Planned, Ended, tree_codes, tree_holds, both_codes, both_holds, frame_codes, frame_holds}

-- what the arrays stand for: the sheet's types and nodes, the node that is planned; and how much room the tables have
pub record Setting : Type 0 where
  pub types : List TypeDef
  pub nodes : List Node
  pub node : Node
  pub flag_room : ℕ
  pub first_room : ℕ
  pub hold_room : ℕ

abbrev pub ground_of : Arrays → Setting → Ground
ground_of A T =
    record { names = A.names; tags = A.tags; values = A.values; types = T.types; nodes = T.nodes; node = T.node; flag_room = T.flag_room; first_room = T.first_room; hold_room = T.hold_room }

-- the arrays stand for it
pub record Known (A : Arrays) (T : Setting) : Type 0 where
  pub few : length A.tags < 4294967296
  pub standing : NodesStand A.names A.tags A.values A.places A.nodes T.nodes
  pub typed : TypesStand A.names A.tags A.values A.defs A.types A.has T.types
  pub declares : Declares A.names (tokens A.tags A.values) A.typed (declared T.node)

-- the tables have this room
pub record Roomy (A : Arrays) (T : Setting) (s : Tables) : Type 0 where
  pub plan : length A.tags ≤ length s.plan
  pub flags : length s.flags ≡ T.flag_room
  pub firsts : length s.firsts ≡ T.first_room
  pub holds : length s.holds ≡ T.hold_room

-- a site's row has its clock
abbrev pub Site : Arrays → Clock → Expr → ℕ → ℕ → Type 0
Site A = Sited A.names A.tags A.values A.sites

abbrev pub Leaves : Arrays → Setting → Tables → Tables → Needs → (p n q : ℕ) → (Ids → List TagValue) → ℕ → (Ids → List Hold) → Result ℕ value.Fault → Option Fault → Type 0
Leaves A T s s' y p n q t j hs r o = Ended q r (Planned (ground_of A T) s s' y p n q t j hs) o

-- over the expression at p; r is the answer
pub record Walks (A : Arrays) (s s' : Tables) (p : ℕ) (r : Result ℕ value.Fault) : Type 0 where
  pub walk : (T : Setting) (c : Clock) (e : Expr) (q : ℕ) (y : Needs) → Known A T → Roomy A T s → LiesAt A.tags A.values (Site A) c e p q → Begun s y →
      Leaves A T s s' (needed T.nodes c e y) p 1 q (tree_codes (ground_of A T) c y.holds e) y.holds (tree_holds (ground_of A T) c y.holds e) r (fault_in T.types T.nodes T.node c e)

-- over two expressions
pub record WalksBoth (A : Arrays) (s s' : Tables) (p : ℕ) (r : Result ℕ value.Fault) : Type 0 where
  pub walk : (T : Setting) (c d : Clock) (a b : Expr) (m q : ℕ) (y : Needs) → Known A T → Roomy A T s → LiesAt A.tags A.values (Site A) c a p m → LiesAt A.tags A.values (Site A) d b m q → Begun s y →
      Leaves A T s s' (needed T.nodes d b (needed T.nodes c a y)) p 2 q (both_codes (ground_of A T) c d y.holds a b) y.holds (both_holds (ground_of A T) c d y.holds a b) r
      (or_else (fault_in T.types T.nodes T.node c a) (fault_in T.types T.nodes T.node d b))

-- over n parts
pub record WalksAll (A : Arrays) (s s' : Tables) (n p : ℕ) (r : Result ℕ value.Fault) : Type 0 where
  pub walk : (T : Setting) (c : Clock) (es : Exprs) (fs : Frame) (q : ℕ) (y : Needs) → Known A T → Roomy A T s → Lies A.tags A.values (Site A) c es fs p n q → Begun s y →
      Leaves A T s s' (needed_all T.nodes c c es y) p n q (frame_codes (ground_of A T) c y.holds es fs) y.holds (frame_holds (ground_of A T) c y.holds es) r (fault_among T.types T.nodes T.node c c es)
