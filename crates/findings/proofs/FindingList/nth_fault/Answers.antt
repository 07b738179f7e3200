-- The fault that the walk gives behind j others.
use Rattle.std.proofs.lemmas.Iterator.Consumers.{YieldsList-from_first, nth_from_yields_List}
use Rattle.definitions.specs.InferClocks.{clock_faults}
use Rattle.findings.specs.Findings.{findings_in}
use Rattle.findings.specs.Value.{node_fault_of}
use Rattle.findings.specs.Walk.{faults_left}
use Rattle.findings.proofs.Laws.{nth-told}
use Rattle.findings.proofs.FindingList.nth_fault.Goals as goal

pub returns : goal.returns
returns c =
    let all = clock_faults (findings_in c.args.self.now.words.now c.args.self.now.count) in
    nth-told c.nth.result all c.args.j (nth_from_yields_List c.nth.result c.nth.new.self c.args.j c.nth.ensures.ran (YieldsList-from_first node_fault_of faults_left all c.faults.ensures))
