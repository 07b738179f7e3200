-- From row 0 on as many rows as there are findings.
use Prim.Native.Nat.{ℕ, ◌-◌}
use mathlib.Core.Path.{◌≡◌, ap}
use native.Mathlib.Omega.{arith}
use Rattle.definitions.specs.InferClocks.{clock_faults}
use Rattle.findings.specs.Findings.{findings_from}
use Rattle.findings.proofs.FindingList.faults.Goals as goal

pub returns : goal.returns
returns c =
    let whole : c.args.self.count - 0 ≡ c.args.self.count = omega arith in
    ap (λ (n : ℕ). clock_faults (findings_from c.args.self.words.now 0 n)) whole
