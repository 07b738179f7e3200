-- `lines::ListedNode::put_faults` meets its contract: with the lines of the faults that are left, those of all are put. Assumes nothing.
use mathlib.Core.List.{map}
use Rattle.definitions.specs.Lists.{join}
use Rattle.definitions.specs.InferClocks.{clock_faults}
use Rattle.definitions.specs.Texts.{fault_line}
use Rattle.findings.specs.Findings.{findings_in}
use Rattle.findings.specs.Walk.{faults_left}
use Rattle.lines.specs.declared.NamedText.{NamedText}
use Rattle.lines.specs.Spelled.{Spells}
use Rattle.lines.proofs.ListedNode.put_faults.Given as goal

abbrev pub invariant-loop-found : goal.invariant-loop-found
invariant-loop-found l =
    (w : NamedText) → Spells (λ n. join (map (fault_line n l.self.told.number) (faults_left l.found-iterator))) l.lines w
    → Spells (λ n. join (map (fault_line n l.self.told.number) (clock_faults (findings_in l.self.table.now l.self.told.clocked.findings)))) l.initial.lines w
