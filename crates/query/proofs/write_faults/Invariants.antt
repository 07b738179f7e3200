-- `query::write_faults` meets its contract: the faults before those that are left are in the list. Assumes nothing.
use mathlib.Core.Path.{◌≡◌}
use Rattle.definitions.specs.InferClocks.{clock_faults}
use Rattle.findings.specs.Findings.{findings_in}
use Rattle.findings.specs.Walk.{faults_left}
use Rattle.query.proofs.Entries.{FaultsPut}
use Rattle.query.proofs.write_faults.Given as goal

abbrev pub invariant-loop-found : goal.invariant-loop-found
invariant-loop-found l =
    (l.list.records.ghost_name ≡ l.initial.list.records.ghost_name)
    × FaultsPut l.node (clock_faults (findings_in l.findings.words.now l.findings.count)) l.initial.list.records.now (faults_left l.found-iterator) l.list
