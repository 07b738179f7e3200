-- Fault records in a lent list.
use Rattle.std.specs.Prelude.{◌≡◌, ◌+◌, min, set}
use Rattle.definitions.specs.declared.FaultRecord.{FaultRecord}
use Rattle.spelling.specs.Writing.{last_place}
use Rattle.query.specs.declared.fault_list.FaultList.{FaultList}

-- one record more, in the place behind the others, if the list has it; the count goes on as far as there are places
pub record Pushed (a : FaultRecord) (l l₁ : FaultList) : Type 0 where
  pub same : l₁.records.ghost_name ≡ l.records.ghost_name
  pub next : l₁.count ≡ min (l.count + 1) last_place
  pub put : l₁.records.now ≡ set l.records.now l.count a
