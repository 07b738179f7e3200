use Rattle.clock_tables.proofs.EnvironmentLaws.{cleared-in}
use Rattle.clock_tables.proofs.clear.Goals as goal

pub returns : goal.returns
returns c = cleared-in _ _ _ c.fill_front.ensures.list_len_unchanged c.fill_front.ensures.filled
