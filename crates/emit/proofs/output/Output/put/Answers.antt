-- `emit::Output::put` meets its contract: by its test. Assumes nothing.
use mathlib.Core.Path.{refl}
use native.Mathlib.Omega.{arith}
use Rattle.emit.proofs.Laws.{put-in, put-out}
use Rattle.emit.proofs.output.Output.put.Goals as goal

pub returns-then-room-gt0 : goal.returns-then-room-gt0
returns-then-room-gt0 c = put-in _ _ _ (omega (arith, c.room.ensures.room, c.if-room-gt0.true)) refl refl refl refl

pub returns-else-room-gt0 : goal.returns-else-room-gt0
returns-else-room-gt0 c = put-out _ _ _ (omega (arith, c.room.ensures.room, c.if-room-gt0.false)) refl refl refl refl
