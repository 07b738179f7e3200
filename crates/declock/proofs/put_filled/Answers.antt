-- `declock::put_filled` meets its contract.
-- Assumes nothing.
use mathlib.Core.Path.{refl}
use Rattle.declock.proofs.DeclockSheetLaws.{filled-written}
use Rattle.declock.proofs.put_filled.Goals as goal

pub returns : goal.returns
returns c =
    λ spelling input before all sheet n h f held kept ahead.
    filled-written spelling _ h f refl c.min-held.ensures f.flags f.firsts held kept ahead refl refl _ _ _ refl refl refl c.put_ids.ensures.flags c.put_ids.ensures.firsts c.put_ids.ensures.holds c.put_ids.ensures.condact _ _ c.declock_node.ensures
