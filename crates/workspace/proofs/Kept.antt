-- Working tables keep their lengths, and so their room. Assumes nothing.
use Prim.Native.Nat.{ℕ, ◌*◌, ◌≤◌}
use mathlib.Core.Path.{◌≡◌, refl, ◌∙◌}
use mathlib.Core.List.{List}
use native.Mathlib.Omega.{arith}
use lib.ListN.{length}
use Rattle.grammar.specs.declared.source.Source.{Source}
use Rattle.workspace.specs.declared.Working.{Working}
use Rattle.workspace.specs.Room.{SameRoom, Roomy, Ample, RoomToList, RoomToPlan, Rooms}

pub same-first : (w : Working) → SameRoom w w
same-first w =
    record {
      same-env = refl;
      same-table = refl;
      same-rows = refl;
      same-chain = refl;
      same-sites = refl;
      env = refl;
      table = refl;
      rows = refl;
      chain = refl;
      sites = refl;
    }

pub same-more : {w w₁ w₂ : Working} → SameRoom w w₁ → SameRoom w₁ w₂ → SameRoom w w₂
same-more x y =
    record {
      same-env = y.same-env ∙ x.same-env;
      same-table = y.same-table ∙ x.same-table;
      same-rows = y.same-rows ∙ x.same-rows;
      same-chain = y.same-chain ∙ x.same-chain;
      same-sites = y.same-sites ∙ x.same-sites;
      env = y.env ∙ x.env;
      table = y.table ∙ x.table;
      rows = y.rows ∙ x.rows;
      chain = y.chain ∙ x.chain;
      sites = y.sites ∙ x.sites;
    }

module _ (table rows chain : List ℕ) (r : Ample table rows chain) where
  -- a place for each chain of m findings in a table as long as this one
  pub ample-room : (m t : ℕ) → t ≡ length table → 38 * m ≤ t → (17 * m ≤ length rows) × (m ≤ length chain) × (m ≤ 4096)
  ample-room m t e h = (omega (arith, r.few, r.chained, r.ordered), omega (arith, r.few, r.chained, r.ordered), omega (arith, r.few, r.chained, r.ordered))

  -- tables as long as these
  pub ample-kept : (table' rows' chain' : List ℕ) → length table' ≡ length table → length rows' ≡ length rows → length chain' ≡ length chain → Ample table' rows' chain'
  ample-kept table' rows' chain' a b c = record { few = omega (arith, r.few); chained = omega (arith, r.chained); ordered = omega (arith, r.ordered) }

module _ {s : Source} {w w' : Working} (k : SameRoom w w') where
  pub roomy-kept : Roomy s w → Roomy s w'
  roomy-kept r = record { few = r.few; clocks = omega (arith, r.clocks, k.env); found = omega (arith, r.found, k.table); sited = omega (arith, r.sited, k.sites) }

  pub list-kept : RoomToList s w → RoomToList s w'
  list-kept r = record { clocks = roomy-kept r.clocks; chains = ample-kept _ _ _ r.chains _ _ _ k.table k.rows k.chain }

  pub plan-kept : RoomToPlan s w → RoomToPlan s w'
  plan-kept r = record { clocks = roomy-kept r.clocks; few-tokens = r.few-tokens; typed = omega (arith, r.typed, k.rows); planned = omega (arith, r.planned, k.chain) }

-- room to plan, of tables that have room for whatever is asked
pub to-plan : {s : Source} {w : Working} → Rooms s w → length s.tags.now ≤ 4096 → RoomToPlan s w
to-plan r few = record { clocks = r.listed.clocks; few-tokens = few; typed = r.typed; planned = r.planned }
