-- `first_faults::copy_faults` meets its contract. Assumes nothing.
use Prim.Native.Nat.{min}
use mathlib.Core.Path.{◌≡◌, sym, ap, subst}
use mathlib.Core.List.{List, ◌++◌}
use native.Mathlib.Omega.{arith}
use lib.ListN.{length, drop}
use Rattle.definitions.specs.declared.FaultRecord.{FaultRecord}
use Rattle.first_faults.specs.Faults.{Recorded}
use Rattle.first_faults.proofs.Records.{record-copied}
use Rattle.first_faults.proofs.copy_faults.Goals as goal

pub returns : goal.returns
returns c = λ lent l h room.
    let n : c.min-n.result ≡ min c.args.kept.now.count (length c.args.list.now) = omega (arith, c.min.ensures, c.min-n.ensures, room) in
    subst (Recorded _ l _) (sym (ap (λ (x : List FaultRecord). x ++ drop c.min-n.result c.args.list.now) c.copy_items.ensures)) (record-copied lent _ _ l _ _ h room n)
