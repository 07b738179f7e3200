-- What rewriting an expression needs, in order of need: `rewrite` without its trees, names and faults.
use Rattle.std.specs.Prelude.{ℕ, ◌+◌, ◌-◌, ◌≡◌, Bool, true, false, List, length}
use Rattle.definitions.specs.Lists.{choose}
use Rattle.definitions.specs.Tree.{Expr, Exprs, Node}
use Rattle.definitions.specs.Clock.{Clock, ◌↓◌, parent, is_on, is_not, is_base}
use Rattle.definitions.specs.Declock.{State, add, add_with_parents, operator_outputs}
use Rattle.clock_tables.specs.Rows.{RowsHold}
use Rattle.defaults.specs.Has.{is_some}
use Rattle.stateless.specs.declared.Counts.{Counts}

-- what an expression needs for itself, its operands apart: nothing; a flag and a hold; both flags; a flag and `condact`
pub data Turn : Type 0 where
  Keep : Turn
  Hold : Turn
  First : Turn
  Gate : Turn

-- what is needed so far: the clocks with flags in order of need, how many holds, whether `condact`
pub record Needs : Type 0 where
  pub flags : List Clock
  pub firsts : List Clock
  pub holds : ℕ
  pub condact : Bool

-- what a state of rewriting says of it
abbrev pub needs_of : State → Needs
needs_of s = record { flags = s.flags; firsts = s.firsts; holds = length s.holds; condact = s.condact }

-- a flag with its parents'; with a hold; with a first-tick flag; with `condact`
abbrev pub with_flag : Clock → Needs → Needs
with_flag c s = record { flags = add_with_parents c s.flags; firsts = s.firsts; holds = s.holds; condact = s.condact }

abbrev pub with_hold : Clock → Needs → Needs
with_hold c s = record { flags = add_with_parents c s.flags; firsts = s.firsts; holds = s.holds + 1; condact = s.condact }

abbrev pub with_first : Clock → Needs → Needs
with_first c s = record { flags = add_with_parents c s.flags; firsts = add c s.firsts; holds = s.holds; condact = s.condact }

abbrev pub with_gate : Clock → Needs → Needs
with_gate c s = record { flags = add_with_parents c s.flags; firsts = s.firsts; holds = s.holds; condact = true }

abbrev pub settled : Turn → Clock → Needs → Needs
settled Turn.Keep c s = s
settled Turn.Hold c s = with_hold c s
settled Turn.First c s = with_first c s
settled Turn.Gate c s = with_gate c s

-- is it a bare name?
abbrev pub is_bare : Expr → Bool
is_bare (Expr.const l w) = false
is_bare (Expr.var x) = true
is_bare (Expr.op h es) = false
is_bare (Expr.pre e) = false
is_bare (Expr.arrow a b) = false
is_bare (Expr.call f es) = false
is_bare (Expr.when k e) = false
is_bare (Expr.merge x a b) = false

-- what a `pre`, a `->` and a call need for themselves
abbrev pub pre_turn : Clock → Bool → Turn
pre_turn c bare = choose (is_base c) Turn.Keep (choose bare Turn.Keep Turn.Hold)

abbrev pub arrow_turn : Clock → Turn
arrow_turn c = choose (is_base c) Turn.Keep Turn.First

abbrev pub call_turn : Clock → Bool → Turn
call_turn c operator = choose (is_base c) Turn.Keep (choose operator Turn.Gate Turn.Keep)

module _ (nodes : List Node) where
  -- what is needed after an expression on clock c, in the order of `rewrite`
  unfoldable mutual
    unfolding operator_outputs

    pub needed : Clock → Expr → Needs → Needs
    needed c (Expr.const l w) s = s
    needed c (Expr.var x) s = s
    needed c (Expr.op h es) s = needed_all c c es s
    needed c (Expr.pre e) s = settled (pre_turn c (is_bare e)) c (needed c e s)
    needed c (Expr.arrow a b) s = settled (arrow_turn c) c (needed c b (needed c a s))
    needed c (Expr.call f es) s = settled (call_turn c (is_some (operator_outputs nodes f))) c (needed_all c c es s)
    needed c (Expr.when k e) s = needed (parent c) e s
    needed c (Expr.merge x a b) s = needed (c ↓ is_not x) b (needed (c ↓ is_on x) a s)

    -- after operands, of which the first is on c and the others on d
    pub needed_all : Clock → Clock → Exprs → Needs → Needs
    needed_all c d Exprs.end s = s
    needed_all c d (Exprs.and e es) s = needed_all d d es (needed c e s)

-- the most holds that are counted
abbrev pub most_holds : ℕ
most_holds = 4294967295

-- two tables and counts say what is needed
pub record Counted (flags firsts : List ℕ) (n : Counts) (s : Needs) : Type 0 where
  pub flagged : RowsHold flags n.flags s.flags
  pub first-flagged : RowsHold firsts n.firsts s.firsts
  pub held : n.holds ≡ most_holds - (most_holds - s.holds)
  pub gated : n.condact ≡ s.condact
