-- The check finds this alone. It stands here so that an edit is refused by it.
use Rattle.std.proofs.Common.{refl}
use Rattle.findings.proofs.Findings.list.Goals as goal

pub returns-clause-count_value : goal.returns-clause-count_value
returns-clause-count_value c = refl
