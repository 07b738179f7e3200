use Rattle.std.proofs.Common.{rules}
use Rattle.arguments.proofs.Filling.{on_ok_whole}
use Rattle.arguments.proofs.with_sheet.Goals as goal

pub returns : goal.returns
returns g c = on_ok_whole _ _ _ _ _ _ _ _ _ (search rules) c.in_ok-n.ensures.consumed c.with_long_sheet.ensures
