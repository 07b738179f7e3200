-- `index::says_operator` meets its contract. Assumes nothing.
use mathlib.Core.Bool.{true}
use mathlib.Core.Path.{◌≡◌, refl}
use Rattle.definitions.specs.declared.NodeKind.{NodeKind}
use Rattle.definitions.specs.Declock.{is_operator_kind}
use Rattle.index.proofs.CalleesLaws.{says-kind}
use Rattle.index.proofs.says_operator.Goals as goal

pub returns-in-Ok-Operator : goal.returns-in-Ok-Operator
returns-in-Ok-Operator c =
    let e = says-kind _ _ c.in-Ok-Operator.field-0 c.try_from.ensures c.in-Ok-Operator.is in
    let k : is_operator_kind NodeKind.Operator ≡ true = refl in
    cc (e, k)
