-- The sites before row i are listed.
use mathlib.Core.List.{◌++◌}
use Rattle.definitions.specs.InferClocks.{sites}
use Rattle.clock_tables.specs.Grown.{Grown}
use Rattle.findings.specs.Findings.{findings_in}
use Rattle.findings.proofs.FindingList.list_sites.Given as goal

abbrev pub invariant-loop-i : goal.invariant-loop-i
invariant-loop-i l = Grown (λ cs. cs ++ sites (findings_in l.self.words.now l.i)) l.initial.clocks l.clocks
