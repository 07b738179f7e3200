-- `declock::write_planned` meets its contract.
-- Assumes nothing.
use Rattle.std.specs.Prelude.{Ok, Err}
use Rattle.declock.specs.Planned.{node_needs}
use Rattle.declock.proofs.DeclockSheetLaws.{filled, crowded}
use Rattle.declock.proofs.write_planned.Goals as goal

pub returns-in-Err-clause-names_held : goal.returns-in-Err-clause-names_held
returns-in-Err-clause-names_held c = λ names before sheet n h held. c.mark_full.ensures.names_held _ (crowded h before (filled h c.fill.new.self (Err _) c.in-Err.ensures))

pub returns-then-not-sheet : goal.returns-then-not-sheet
returns-then-not-sheet c =
    record {
      names_held = λ names before sheet n h held. c.add_to.ensures names n.node (node_needs names sheet n) _ before (filled h _ (Ok _) c.in-Ok.ensures) held;
      next_after = λ names before all sheet n h held ahead kept. c.put_filled.ensures _ names before all sheet n h (filled h _ (Ok _) c.in-Ok.ensures) (c.add_to.ensures names n.node (node_needs names sheet n) _ before (filled h _ (Ok _) c.in-Ok.ensures) held) kept ahead;
    }

pub returns-else-not-sheet-clause-names_held : goal.returns-else-not-sheet-clause-names_held
returns-else-not-sheet-clause-names_held c = λ names before sheet n h held. c.add_to.ensures names n.node (node_needs names sheet n) _ before (filled h _ (Ok _) c.in-Ok.ensures) held
