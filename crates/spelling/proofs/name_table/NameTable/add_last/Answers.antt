-- `spelling::name_table::NameTable::add_last` meets its contract. Assumes nothing.
use mathlib.Core.Path.{refl}
use mathlib.Core.Logic.{inl, inr}
use native.Mathlib.Omega.{arith}
use Rattle.spelling.proofs.Table.{added, added-sum, not-added}
use Rattle.spelling.proofs.name_table.NameTable.add_last.Goals as goal
use Rattle.spelling.proofs.name_table.NameTable.add_last.Goals.{else-self-via-then-self+else-name-at, else-self-via-else-self}

pub invariant_of-self-clause-summed : goal.invariant_of-self-clause-summed
invariant_of-self-clause-summed g c = added-sum c.args.self.now _ (omega (arith, c.if-self.true))

pub returns-then-name-at : goal.returns-then-name-at
returns-then-name-at g c = λ names e. added c.args.self.now _ names _ e (omega (arith, c.if-self.true)) (omega (arith, c.if-name-at.true)) refl refl refl refl c.copy_at.ensures.out_after

pub returns-else-self : goal.returns-else-self
returns-else-self g c = λ names e.
    not-added c.args.self.now _ names _ e
    (elim c.else-self.branch [
      | else-self-via-then-self+else-name-at w ↦ inl (omega (arith, w.if-name-at.false))
      | else-self-via-else-self w ↦ inr (omega (arith, w.if-self.false))
    ])
    refl
