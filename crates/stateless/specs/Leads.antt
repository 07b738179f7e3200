-- What is needed only grows: a clock that is there keeps its place.
use Rattle.std.specs.Prelude.{◌≤◌, ◌≡◌, true, List, length}
use Rattle.definitions.specs.Lists.{any}
use Rattle.definitions.specs.Clock.{Clock, same_clock}
use Rattle.definitions.specs.Declock.{clock_place}
use Rattle.stateless.specs.Need.{Needs}

-- each clock that is there stays, at its place, and there are no fewer
pub record Keeps (l m : List Clock) : Type 0 where
  pub there : (c : Clock) → any (same_clock c) l ≡ true → any (same_clock c) m ≡ true
  pub place : (c : Clock) → any (same_clock c) l ≡ true → clock_place c l ≡ clock_place c m
  pub many : length l ≤ length m

-- v is needed on the way to w
pub record Leads (v w : Needs) : Type 0 where
  pub flags : Keeps v.flags w.flags
  pub firsts : Keeps v.firsts w.firsts
  pub holds : v.holds ≤ w.holds
