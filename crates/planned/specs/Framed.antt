-- What stands around a right side under the flag of its clock.
use Rattle.std.specs.Prelude.{ℕ, ◌+◌, ◌-◌, ◌≡◌, List, [], ◌∷◌, ◌++◌, Bool, eqb, length, get_or}
use Rattle.std.proofs.Math.Option.{none}
use Rattle.definitions.specs.declared.ExprToken.{ExprToken}
use Rattle.definitions.specs.declared.Token.{Token}
use Rattle.definitions.specs.Lists.{choose, join}
use Rattle.definitions.specs.Tree.{TypeDef, Node}
use Rattle.definitions.specs.Declock.{Shape, bare, other, calls}
use Rattle.definitions.specs.Output.{e, expr_tokens, operand_tokens}
use Rattle.stateless.specs.Yield.{left_tree, left_trees}
use Rattle.stateless.specs.Faults.{left_fault, lefts_fault}
use Rattle.planned.specs.declared.Frame.{Frame}

-- the first tokens of a gated call: `condact`, how many arguments, the flag
abbrev pub gate_tokens : ℕ → ℕ → ℕ → List Token
gate_tokens condact n flag = e (ExprToken.Call condact) ∷ Token.Count n ∷ e (ExprToken.Var flag) ∷ []

-- a token, and a name behind it
abbrev pub named_tokens : ExprToken → ℕ → List Token
named_tokens t x = e t ∷ e (ExprToken.Var x) ∷ []

-- the first tokens of a choice by a name
abbrev pub choice_tokens : ℕ → List Token
choice_tokens x = named_tokens ExprToken.If x

-- by the ids of flags and an equation's word, 0 or the row of its flag and one more
abbrev pub frame_in : List ℕ → ℕ → ℕ → Frame
frame_in flag_ids count w = choose (eqb w 0) Frame.Plain (choose (eqb count 1) (Frame.Choose (get_or flag_ids (w - 1) 0)) (Frame.Gate (get_or flag_ids (w - 1) 0)))

-- several left names gate a call that is not of `condact`; the id of `condact` and the flag are given
abbrev pub several_frame : ℕ → ℕ → Shape → Frame
several_frame condact flag bare = Frame.Plain
several_frame condact flag other = Frame.Plain
several_frame condact flag (calls f) = choose (eqb f condact) Frame.Plain (Frame.Gate flag)

-- a right side under the flag of its clock
abbrev pub flagged_frame : ℕ → ℕ → List ℕ → Shape → Frame
flagged_frame condact flag [] u = several_frame condact flag u
flagged_frame condact flag (x ∷ []) u = Frame.Choose flag
flagged_frame condact flag (x ∷ y ∷ xs) u = several_frame condact flag u

-- a right side that is of this shape after rewriting, on a clock that is base or not
abbrev pub frame_of : Bool → ℕ → ℕ → List ℕ → Shape → Frame
frame_of plain condact flag xs u = choose plain Frame.Plain (flagged_frame condact flag xs u)

-- what is written before it, a gate having n arguments
abbrev pub lead_in : ℕ → ℕ → Frame → List Token
lead_in condact n Frame.Plain = []
lead_in condact n (Frame.Choose a) = choice_tokens a
lead_in condact n (Frame.Gate a) = gate_tokens condact n a

module _ (types : List TypeDef) (nodes : List Node) (node : Node) where
  -- a left name's default, and then its value one tick before
  pub record DefaultThenHeld (xs : List ℕ) (l : List Token) : Type 0 where
    pub name : ℕ
    pub alone : xs ≡ name ∷ []
    pub faultless : left_fault types nodes node name ≡ none
    pub same : l ≡ e ExprToken.Arrow ∷ (expr_tokens (left_tree types nodes node name) ++ (e ExprToken.Pre ∷ e (ExprToken.Var name) ∷ []))

  -- the left names' defaults
  pub record Defaulted (xs : List ℕ) (l : List Token) : Type 0 where
    pub faultless : lefts_fault types nodes node xs ≡ none
    pub same : l ≡ join (operand_tokens (left_trees types nodes node xs))

  -- what is written behind it, these being the left names
  unfoldable pub LeadOut : Frame → List ℕ → List Token → Type 0
  LeadOut Frame.Plain xs l = l ≡ []
  LeadOut (Frame.Choose a) xs l = DefaultThenHeld xs l
  LeadOut (Frame.Gate a) xs l = Defaulted xs l

  -- a right side's tokens in their frame
  pub record Framed (condact : ℕ) (f : Frame) (xs : List ℕ) (inner all : List Token) : Type 0 where
    pub behind : List Token
    pub leads-out : LeadOut f xs behind
    pub whole : all ≡ lead_in condact (length xs + 2) f ++ (inner ++ behind)
