-- How a sheet is asked: what answers a question is called once on the sheet's names and tokens, with working tables, or not at all.
use Rattle.std.specs.Prelude.{ℕ, ◌*◌, ◌≤◌, ◌≡◌, List, length, Result, Err}
use Rattle.std.specs.Borrow.{Bor, MutBor}
use Rattle.definitions.specs.declared.Refusal.{Refusal}
use Rattle.definitions.specs.Refusals.{down, told}
use Rattle.definitions.specs.Answer.{Input, input}
use Rattle.grammar.specs.declared.source.Source.{Source}
use Rattle.spelling.specs.declared.sheet_names.SheetNames.{SheetNames}
use Rattle.workspace.specs.declared.Working.{Working}
use Rattle.workspace.specs.Room.{Rooms}
use Rattle.declock_project.specs.Given.{Read}

-- the sheet i, which these bytes say, was asked: by a call with its names and tokens, and with working tables that have room
pub record CalledOn {F R : Type 0} (step : F → SheetNames → Bor Source → MutBor Working → R → MutBor Working → F → Type 0) (old new : F) (bytes : List ℕ) (i : Input) (r : R) : Type 0 where
  pub names : SheetNames
  pub source : Bor Source
  pub before : MutBor Working
  pub after : MutBor Working
  pub read : Read names.lengths.now names.spelling source.now bytes i
  pub room : Rooms source.now before.now
  pub called : step old names source before r after new

-- the same of bytes that say a sheet
pub record Called {F R : Type 0} (step : F → SheetNames → Bor Source → MutBor Working → R → MutBor Working → F → Type 0) (old new : F) (bytes : List ℕ) (r : R) : Type 0 where
  pub input : Input
  pub call : CalledOn step old new bytes input r

-- refusals 1 to 7: nothing was called
pub record NotCalled {F T : Type 0} (old new : F) (bytes : List ℕ) (r : Result T Refusal) : Type 0 where
  pub refusal : Refusal
  pub told : told (input bytes) ≡ down refusal
  pub answer : r ≡ Err refusal
  pub kept : new ≡ old

-- working tables of so many words, for names' clocks, for findings, for rows and sites and for tokens' order, are enough for a sheet of
-- these tokens
pub record Enough (s : Source) (clocks findings chains tokens : ℕ) : Type 0 where
  pub few : s.names ≤ 1024
  pub named : 17 * s.names ≤ clocks
  pub found : 38 * length s.tags.now ≤ findings
  pub sited : 17 * length s.tags.now ≤ chains
  pub few-found : findings ≤ 155648
  pub chained : 17 * findings ≤ 38 * chains
  pub ordered : findings ≤ 38 * tokens
  pub typed : s.names ≤ chains
  pub planned : length s.tags.now ≤ tokens
