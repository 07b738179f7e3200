-- Each clock that rewriting needs a flag for is needed once: in a table its row is its place.
-- Assumes nothing.
use Prim.Native.Nat.{ℕ}
use mathlib.Core.List.{List}
use Rattle.definitions.specs.Tree.{TypeDef, Node}
use Rattle.definitions.specs.InferClocks.{Clocked}
use Rattle.clock_tables.proofs.Distinct.{Distinct, distinct_none, distinct-add, distinct-parents}
use Rattle.stateless.specs.Need.{Turn, Needs}
use Rattle.stateless.specs.Whole.{no_needs, old_needs}
use Rattle.stateless.proofs.Kept.{KeptSettled, old-kept}

-- no clock has two flags, or two first-tick flags
pub record Apart (y : Needs) : Type 0 where
  pub flags : Distinct y.flags
  pub firsts : Distinct y.firsts

pub apart_none : Apart no_needs
apart_none = record { flags = distinct_none; firsts = distinct_none }

apart-settled : KeptSettled Apart
apart-settled Turn.Keep c y h = h
apart-settled Turn.Hold c y h = record { flags = distinct-parents c y.flags h.flags; firsts = h.firsts }
apart-settled Turn.First c y h = record { flags = distinct-parents c y.flags h.flags; firsts = distinct-add c y.firsts h.firsts }
apart-settled Turn.Gate c y h = record { flags = distinct-parents c y.flags h.flags; firsts = h.firsts }

-- THE LAW: what a node's equations need
pub apart-old : (types : List TypeDef) (nodes : List Node) (node : Node) (condact : ℕ) (cs : List Clocked) (y : Needs) → Apart y → Apart (old_needs types nodes node condact cs y)
apart-old = old-kept Apart apart-settled (λ c y h. record { flags = distinct-parents c y.flags h.flags; firsts = h.firsts })
