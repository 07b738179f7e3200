-- The room of the working tables.
use Rattle.std.specs.Prelude.{ℕ, ◌*◌, ◌≤◌, ◌≡◌, List, length}
use Rattle.grammar.specs.declared.source.Source.{Source}
use Rattle.workspace.specs.declared.Working.{Working}

-- the working tables are the same ones, and have as many words as before
pub record SameRoom (w w' : Working) : Type 0 where
  pub same-env : w'.env.ghost_name ≡ w.env.ghost_name
  pub same-table : w'.table.ghost_name ≡ w.table.ghost_name
  pub same-rows : w'.rows.ghost_name ≡ w.rows.ghost_name
  pub same-chain : w'.chain.ghost_name ≡ w.chain.ghost_name
  pub same-sites : w'.sites.ghost_name ≡ w.sites.ghost_name
  pub env : length w'.env.now ≡ length w.env.now
  pub table : length w'.table.now ≡ length w.table.now
  pub rows : length w'.rows.now ≡ length w.rows.now
  pub chain : length w'.chain.now ≡ length w.chain.now
  pub sites : length w'.sites.now ≡ length w.sites.now

-- those for chains, and for their order, have the words that they had before
abbrev pub ChainsStay : Working → Working → Type 0
ChainsStay w w' = (w'.rows.now ≡ w.rows.now) × (w'.chain.now ≡ w.chain.now)

-- they have room for the clocks of a sheet's names, for what its tokens let be found, and for a clock for each token
pub record Roomy (s : Source) (w : Working) : Type 0 where
  pub few : s.names ≤ 1024
  pub clocks : 17 * s.names ≤ length w.env.now
  pub found : 38 * length s.tags.now ≤ length w.table.now
  pub sited : 17 * length s.tags.now ≤ length w.sites.now

-- the tables for chains have room for as many as the table of findings has rows, which are at most as many as a sheet has tokens
pub record Ample (table rows chain : List ℕ) : Type 0 where
  pub few : length table ≤ 155648
  pub chained : 17 * length table ≤ 38 * length rows
  pub ordered : length table ≤ 38 * length chain

-- they have room for clocks and for chains
pub record RoomToList (s : Source) (w : Working) : Type 0 where
  pub clocks : Roomy s w
  pub chains : Ample w.table.now w.rows.now w.chain.now

-- they have room for clocks, for the types of names and for the plan of tokens
pub record RoomToPlan (s : Source) (w : Working) : Type 0 where
  pub clocks : Roomy s w
  pub few-tokens : length s.tags.now ≤ 4096
  pub typed : s.names ≤ length w.rows.now
  pub planned : length s.tags.now ≤ length w.chain.now

-- they have room for whatever is asked of a sheet
pub record Rooms (s : Source) (w : Working) : Type 0 where
  pub listed : RoomToList s w
  pub typed : s.names ≤ length w.rows.now
  pub planned : length s.tags.now ≤ length w.chain.now
