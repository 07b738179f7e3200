-- A finding's row says what it is: the clock of a `pre` or `->` is a site. Assumes nothing.
use mathlib.Core.Path.{sym, ◌∙◌, ap}
use Rattle.findings.specs.Value.{finding_of}
use Rattle.findings.proofs.Laws.{site-kind}
use Rattle.findings.proofs.RowFromFinding.from.Goals as goal

pub returns-in-Site : goal.returns-in-Site
returns-in-Site c = site-kind _ _ _ _ _ _ _ c.clock_row.ensures.kind_value c.clock_row.ensures.expected_value ∙ sym (ap finding_of c.in-Site.is)
