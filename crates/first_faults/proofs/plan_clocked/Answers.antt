-- `first_faults::plan_clocked` meets its contract: its clock faults first. Assumes nothing.
use mathlib.Core.Path.{sym, ap, ◌∙◌}
use Rattle.findings.specs.Value.{found_of}
use Rattle.first_faults.proofs.Laws.{no-clock-fault, as_many, all-sited, found-clock, found-planned}
use Rattle.first_faults.proofs.plan_clocked.Goals as goal

pub returns-in-Some-clause-found_in : goal.returns-in-Some-clause-found_in
returns-in-Some-clause-found_in c = λ i node q k h d u f all st room. found-clock i node k _ _ all _ _ _ _ _ (sym (ap found_of c.in-Some.is) ∙ (rw (c.findings.ensures.words_value, c.findings.ensures.count_value) at c.nth_fault.ensures))

pub returns-clause-found_in : goal.returns-clause-found_in
returns-clause-found_in c = λ i node q k h d u f all st room.
    let none = sym (ap found_of c.in_default.is) ∙ (rw (c.findings.ensures.words_value, c.findings.ensures.count_value) at c.nth_fault.ensures) in
    let sited = all-sited _ _ node k _ _ f (no-clock-fault i node k _ _ all none) st in
    found-planned i node k _ _ all _ _ _ _ _ none u (c.plan_of.ensures i node q k.equations h d sited (as_many _ _ node q _ k d f) room.typed room.planned room.few-tokens) sited
