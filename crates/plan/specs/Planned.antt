-- A plan by place that is right: what it says is what rewriting yields, whatever else is needed in the end and whatever ids the new names
-- get.
use Rattle.std.specs.Prelude.{ℕ, ◌+◌, ◌*◌, ◌≤◌, ◌<◌, ◌≡◌, List, [], ◌++◌, map, ◌⊎◌, length, get_or, Result, Ok, Err}
use Rattle.std.proofs.Math.Option.{Option, none, some}
use Rattle.definitions.specs.Tokens.{TagValue, code_of}
use Rattle.definitions.specs.Tree.{TypeDef, Expr, Exprs, Node}
use Rattle.definitions.specs.Clock.{Clock}
use Rattle.definitions.specs.InferClocks.{Fault}
use Rattle.findings.specs.declared.Fault as value
use Rattle.findings.specs.Value.{fault_of}
use Rattle.definitions.specs.Declock.{Hold}
use Rattle.definitions.specs.Output.{expr_tokens, operand_tokens}
use Rattle.stateless.specs.Need.{Needs}
use Rattle.stateless.specs.Leads.{Leads}
use Rattle.stateless.specs.Yield.{Ids, yield, yields}
use Rattle.stateless.specs.Locals.{ids_in}
use Rattle.skeleton.specs.Lies.{Frame, weave}
use Rattle.planned.specs.Writes.{Writer, Writes}
use Rattle.planned.specs.declared.HeldOperand.{HeldOperand}
use Rattle.planned.specs.Held.{hold_at, HeldFrom}
use Rattle.plan.specs.Tables.{Tables, Begun}

-- what is needed in the end: no more rows than there is room for, and no more than words can number
pub record Whole (flag_room first_room hold_room : ℕ) (w : Needs) : Type 0 where
  pub flags-fit : 17 * length w.flags ≤ flag_room
  pub firsts-fit : 17 * length w.firsts ≤ first_room
  pub holds-fit : w.holds ≤ hold_room
  pub few-flags : length w.flags < 4294967295
  pub few-firsts : length w.firsts < 4294967295
  pub few-holds : w.holds < 4294967295

-- two tables, with d past their ends, agree from p up to q; the second is the first but for rows from p up to q
abbrev pub Agrees : {A : Type 0} → A → List A → List A → ℕ → ℕ → Type 0
Agrees d t t' p q = (i : ℕ) → p ≤ i → i < q → get_or t' i d ≡ get_or t i d

abbrev pub Kept : {A : Type 0} → A → List A → List A → ℕ → ℕ → Type 0
Kept d t t' p q = (i : ℕ) → (i < p) ⊎ (q ≤ i) → get_or t' i d ≡ get_or t i d

-- what `hold_at` says past the end
abbrev pub no_hold : HeldOperand
no_hold = hold_at [] 0

-- what a sheet and its arrays are: the number of names, tags and values, types, nodes, the node that is planned; how much room its tables
-- have
pub record Ground : Type 0 where
  pub names : ℕ
  pub tags : List ℕ
  pub values : List ℕ
  pub types : List TypeDef
  pub nodes : List Node
  pub node : Node
  pub flag_room : ℕ
  pub first_room : ℕ
  pub hold_room : ℕ

-- it is written with these ids
abbrev pub writer : Ground → ℕ → List ℕ → List ℕ → List ℕ → Writer
writer G condact flag_ids first_ids hold_ids =
    record { types = G.types; nodes = G.nodes; node = G.node; condact = condact; flag_ids = flag_ids; first_ids = first_ids; hold_ids = hold_ids }

-- n parts from p up to q are planned, y being needed then: every plan with these words writes them as t says, before whatever follows; and
-- the holds hs that they make, numbered from j on, are written as every plan and table of holds with these words say
pub record Says (G : Ground) (plan : List ℕ) (holds : List HeldOperand) (y : Needs) (p n q : ℕ) (t : Ids → List TagValue) (j : ℕ) (hs : Ids → List Hold) : Type 0 where
  pub say : (w : Needs) (condact : ℕ) (flag_ids first_ids hold_ids : List ℕ) → Whole G.flag_room G.first_room G.hold_room w → Leads y w → (plan' : List ℕ) → Agrees 0 plan plan' p q →
      (k s : ℕ) (m : List TagValue) → Writes G.tags G.values (writer G condact flag_ids first_ids hold_ids) plan' q k s m →
      Writes G.tags G.values (writer G condact flag_ids first_ids hold_ids) plan' p (n + k) s (t (ids_in w.flags w.firsts flag_ids first_ids hold_ids condact) ++ m)
  pub hold : (w : Needs) (condact : ℕ) (flag_ids first_ids hold_ids : List ℕ) → Whole G.flag_room G.first_room G.hold_room w → Leads y w → (plan' : List ℕ) (holds' : List HeldOperand) → Agrees 0 plan plan' p q → Agrees no_hold holds holds' j y.holds →
      HeldFrom G.names G.tags G.values (writer G condact flag_ids first_ids hold_ids) plan' holds' j (hs (ids_in w.flags w.firsts flag_ids first_ids hold_ids condact))

-- what a walk over n parts from p up to q leaves where no fault is met: y is needed then, j holds were there before
pub record Planned (G : Ground) (s s' : Tables) (y : Needs) (p n q : ℕ) (t : Ids → List TagValue) (j : ℕ) (hs : Ids → List Hold) : Type 0 where
  pub begun : Begun s' y
  pub kept : Kept 0 s.plan s'.plan p q
  pub held : Kept no_hold s.holds s'.holds j y.holds
  pub says : Says G s'.plan s'.holds y p n q t j hs

-- by the first fault that is met: there is none, and the answer is the end; or the answer is the fault
pub data Ended (end : ℕ) (r : Result ℕ value.Fault) (P : Type 0) : Option Fault → Type 0 where
  goes : P → r ≡ Ok end → Ended end r P none
  stops : {f : Fault} (g : value.Fault) → fault_of g ≡ f → r ≡ Err g → Ended end r P (some f)

module _ (G : Ground) where
  -- the tokens of a rewritten expression, n holds being there before, and the holds that it makes
  abbrev pub tree_codes : Clock → ℕ → Expr → Ids → List TagValue
  tree_codes c n e ids = map code_of (expr_tokens (yield G.types G.nodes G.node ids c n e).value)

  abbrev pub tree_holds : Clock → ℕ → Expr → Ids → List Hold
  tree_holds c n e ids = (yield G.types G.nodes G.node ids c n e).holds

  -- of two
  abbrev pub both_codes : Clock → Clock → ℕ → Expr → Expr → Ids → List TagValue
  both_codes c d n a b ids = tree_codes c n a ids ++ tree_codes d (yield G.types G.nodes G.node ids c n a).after b ids

  abbrev pub both_holds : Clock → Clock → ℕ → Expr → Expr → Ids → List Hold
  both_holds c d n a b ids = tree_holds c n a ids ++ tree_holds d (yield G.types G.nodes G.node ids c n a).after b ids

  -- of several in their frame
  abbrev pub frame_codes : Clock → ℕ → Exprs → Frame → Ids → List TagValue
  frame_codes c n es fs ids = weave fs (map (map code_of) (operand_tokens (yields G.types G.nodes G.node ids c c n es).value))

  abbrev pub frame_holds : Clock → ℕ → Exprs → Ids → List Hold
  frame_holds c n es ids = (yields G.types G.nodes G.node ids c c n es).holds
