-- What a plan says: the tokens that are written for parts.
use Rattle.std.specs.Prelude.{ℕ, suc, ◌+◌, ◌-◌, ◌<◌, ◌≡◌, List, [], ◌∷◌, ◌++◌, map, eqb, length, get_or}
use Rattle.std.proofs.Math.Option.{none, some}
use Rattle.definitions.specs.Lists.{choose, join}
use Rattle.definitions.specs.Tokens.{TagValue, tag_value, code_of}
use Rattle.definitions.specs.Tree.{Declared, TypeDef, Node}
use Rattle.definitions.specs.Declock.{operator_outputs}
use Rattle.definitions.specs.Output.{operand_tokens}
use Rattle.layout.specs.Owed.{Owed}
use Rattle.stateless.specs.Yield.{output_trees}
use Rattle.stateless.specs.Faults.{outputs_fault}
use Rattle.skeleton.specs.Lies.{code_at, parts_at}
use Rattle.planned.specs.declared.Plan.{Plan}

-- what a plan is written with: the sheet's types and nodes and the node that is written; the ids of `condact`, of activation flags and
-- of first-tick flags by row, and of holds by number
pub record Writer : Type 0 where
  pub types : List TypeDef
  pub nodes : List Node
  pub node : Node
  pub condact : ℕ
  pub flag_ids : List ℕ
  pub first_ids : List ℕ
  pub hold_ids : List ℕ

-- what becomes of a token, by its tag, value and word
unfoldable pub plan_of : List ℕ → List ℕ → List ℕ → ℕ → ℕ → ℕ → Plan
plan_of flags firsts holds tag v w =
    choose (eqb tag 58) (choose (eqb w 0) Plan.Stay (Plan.Hold (get_or holds (w - 1) 0))) (
    choose (eqb tag 59) (choose (eqb w 0) Plan.Stay (Plan.Choose (get_or firsts (w - 1) 0))) (
    choose (eqb tag 60) (choose (eqb w 0) Plan.Stay (Plan.Gate (get_or flags (w - 1) 0))) (
    choose (eqb tag 67) Plan.Drop (
    choose (eqb tag 68) Plan.Drop (
    choose (eqb tag 69) (Plan.Choose v) Plan.Stay)))))

-- of the token at p
abbrev pub plan_at : List ℕ → List ℕ → Writer → List ℕ → ℕ → Plan
plan_at gs vs W plan p = plan_of W.flag_ids W.first_ids W.hold_ids (get_or gs p 0) (get_or vs p 0) (get_or plan p 0)

-- two tokens, the second a name
abbrev pub named : ℕ → ℕ → List TagValue → List TagValue
named tag x l = tag_value tag 0 ∷ tag_value 54 x ∷ l

-- the first tokens of a gated call: `condact`, how many arguments, the flag
abbrev pub gate_codes : ℕ → ℕ → ℕ → List TagValue → List TagValue
gate_codes condact n flag l = tag_value 60 condact ∷ tag_value 3 n ∷ tag_value 54 flag ∷ l

-- the defaults of a gated call's outputs
abbrev pub default_codes : Writer → List Declared → List TagValue
default_codes W os = map code_of (join (operand_tokens (output_trees W.types W.nodes W.node os)))

-- by the plan, so many parts from p up to q are written as these tags and values
pub data Writes (gs vs : List ℕ) (W : Writer) (plan : List ℕ) : ℕ → ℕ → ℕ → List TagValue → Type 0 where
  done : {p : ℕ} → Writes gs vs W plan p 0 p []
  stay : {p k q : ℕ} {l : List TagValue} → p < length gs → plan_at gs vs W plan p ≡ Plan.Stay →
      Writes gs vs W plan (p + 1) (parts_at gs vs p + k) q l → Writes gs vs W plan p (suc k) q (code_at gs vs p ∷ l)
  drop : {p k q : ℕ} {l : List TagValue} → p < length gs → plan_at gs vs W plan p ≡ Plan.Drop →
      Writes gs vs W plan (p + 1) (suc k) q l → Writes gs vs W plan p (suc k) q l
  choice : {p k q x : ℕ} {l : List TagValue} → p < length gs → plan_at gs vs W plan p ≡ Plan.Choose x →
      Writes gs vs W plan (p + 1) (suc (suc k)) q l → Writes gs vs W plan p (suc k) q (named 57 x l)
  hold : {p k r q x : ℕ} {l : List TagValue} → p < length gs → plan_at gs vs W plan p ≡ Plan.Hold x →
      Owed gs vs (p + 1) 1 r → Writes gs vs W plan r k q l → Writes gs vs W plan p (suc k) q (named 58 x l)
  gate : {p k r q x : ℕ} {os : List Declared} {a l : List TagValue} → p < length gs → plan_at gs vs W plan p ≡ Plan.Gate x →
      operator_outputs W.nodes (get_or vs p 0) ≡ some os → outputs_fault W.types W.nodes W.node (get_or vs p 0) os ≡ none →
      Writes gs vs W plan (p + 1) 1 r a → Writes gs vs W plan r k q l →
      Writes gs vs W plan p (suc k) q (gate_codes W.condact (length os + 2) x (code_at gs vs p ∷ (a ++ (default_codes W os ++ l))))
