use mathlib.Core.Path.{ap}
use Rattle.std.proofs.Common.{Some}
use Rattle.inspect.proofs.Summaries.{summary-enum, summary-record, summary-alias}
use Rattle.inspect.proofs.type_summary.Goals as goal

pub returns-in-Enum : goal.returns-in-Enum
returns-in-Enum c = λ d q g. ap Some (summary-enum _ _ d q _ (c.in_ok-name.ensures d q g) _ _ c.in-Enum.is)

pub returns-in-Record : goal.returns-in-Record
returns-in-Record c = λ d q g. ap Some (summary-record _ _ d q _ (c.in_ok-name.ensures d q g) _ _ c.in-Record.is)

pub returns-in-Alias : goal.returns-in-Alias
returns-in-Alias c = λ d q g. ap Some (summary-alias _ _ d q _ (c.in_ok-name.ensures d q g) _ _ c.in-Alias.is)
