-- A full table keeps its rows, and its count says that it is full.
use native.Mathlib.Omega.{arith}
use mathlib.Core.Path.{refl, ◌∙◌}
use Rattle.findings.proofs.Laws.{holds-over, holds-full, holds_more}
use Rattle.findings.proofs.Findings.push.Goals as goal
use Rattle.findings.proofs.Findings.push.Goals.{then-self-room-2, else-self-room-2}

pub returns-after-self-room-2 : goal.returns-after-self-room-2
returns-after-self-room-2 c = elim c.if-self-room-2.branch [
  | then-self-room-2 w ↦ rw w.self-is (record { same_reference = refl; same_length = w.store_row.ensures.t_len_unchanged; held = λ fs h. holds_more _ _ _ fs _ (omega (arith, w.if-self-room-2.true)) w.store_row.ensures.t_len_unchanged (w.store_row.ensures.b_after ∙ w.from.ensures) w.store_row.ensures.by_index h })
  | else-self-room-2 w ↦ rw w.self-is (record { same_reference = refl; same_length = refl; held = λ fs h. holds-full _ _ _ fs (omega (arith, c.if-self-room.true)) (omega (arith, w.if-self-room-2.false)) h })
]

pub returns-else-self-room : goal.returns-else-self-room
returns-else-self-room c = record { same_reference = refl; same_length = refl; held = λ fs h. holds-over _ _ _ fs (omega (arith, c.if-self-room.false)) h }
