-- `fault_text::put_found` meets its contract. Assumes nothing.
use native.Mathlib.Omega.{arith}
use Rattle.std.proofs.Common.{rules}
use Rattle.spelling.proofs.Writers.{wrote_none}
use Rattle.lines.proofs.Spelled.{wrote_to}
use Rattle.fault_text.proofs.Laws.{line-short}
use Rattle.fault_text.proofs.put_found.Goals as goal

pub returns-in-Some-clause-upper_bound : goal.returns-in-Some-clause-upper_bound
returns-in-Some-clause-upper_bound c = line-short c.args.names.spelling.starts.now c.args.names.spelling.letters.now _ _ c.in-Some.found.fault _ c.args.names.short c.put_fault_line.ensures.wrote (search rules)

pub returns-in-Some-clause-wrote : goal.returns-in-Some-clause-wrote
returns-in-Some-clause-wrote c = rw c.in-Some.is (wrote_to c.put_fault_line.ensures.wrote (search rules))

pub returns-in_default : goal.returns-in_default
returns-in_default c = record { upper_bound = omega arith; wrote = rw c.in_default.is (wrote_none c.args.text.now) }
