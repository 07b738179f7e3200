use native.Mathlib.Omega.{arith}
use mathlib.Core.Path.{refl}
use Rattle.clock_tables.specs.Value.{value_of}
use Rattle.clock_tables.proofs.RowsLaws.{last-over, last-put}
use Rattle.clock_tables.proofs.ClockTable.push.Goals as goal

pub returns-then-self-room : goal.returns-then-self-room
returns-then-self-room c =
    let r = c.put_row.ensures in
    record {
      same_reference = refl;
      same_length = r.rows_len_unchanged;
      held = λ cs h. last-put _ _ (value_of c.args.c) cs _ (omega (arith, c.if-self-room.true)) r.rows_len_unchanged r.clock r.by_index r.past h;
    }

pub returns-else-self-room : goal.returns-else-self-room
returns-else-self-room c = record { same_reference = refl; same_length = refl; held = λ cs h. last-over _ _ _ cs (omega (arith, c.if-self-room.false)) h }
