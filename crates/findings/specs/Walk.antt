-- The clock faults among findings, as a walk over them gives one after another.
use Rattle.std.specs.Prelude.{◌-◌, List}
use Rattle.definitions.specs.InferClocks.{NodeFault, clock_faults}
use Rattle.findings.specs.Findings.{findings_from}
use Rattle.findings.specs.declared.clock_faults.ClockFaults.{ClockFaults}

-- those that a walk has still to give
abbrev pub faults_left : ClockFaults → List NodeFault
faults_left w = clock_faults (findings_from w.words.now w.at (w.count - w.at))
