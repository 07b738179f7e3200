-- `planned::put_left_default` meets its contract: by where the name's type was found.
-- Assumes nothing.
use Rattle.planned.proofs.LeftDefaultsLaws.{wrote-declared, not-unknown, lent-default}
use Rattle.planned.proofs.put_left_default.Goals as goal

pub returns-in_default : goal.returns-in_default
returns-in_default c = λ ts l n k b free. absurd (not-unknown ts l n c.args.written.now k _ b free _ c.last_type.ensures c.in_default.is)

pub returns-in-Some : goal.returns-in-Some
returns-in-Some c = λ ts l n k b free. wrote-declared ts l n c.args.written.now k _ b free _ c.last_type.ensures _ c.in-Some.is _ _ (λ a q e g h. lent-default c.type_table.result c.args.written.now.index.now c.type_table.ensures _ _ _ c.emit_default.ensures ts a q e k.table g h)
