-- `defaults::emit_literals` meets its contract: an int and a float have a high word. Assumes nothing.
use mathlib.Core.Logic.{inl, inr}
use Rattle.std.proofs.Common.{rules}
use Rattle.defaults.proofs.Written.{many-short, literal-one}
use Rattle.defaults.proofs.emit_literals.Goals as goal

pub returns-in-Bool : goal.returns-in-Bool
returns-in-Bool c = elim c.in-Bool.is [
  | inl w ↦ many-short _ _ _ _ (rw w.1) c.emit_many.ensures
  | inr w ↦ many-short _ _ _ _ (rw w.1) c.emit_many.ensures
]

pub returns-in-Int : goal.returns-in-Int
returns-in-Int c = c.emit_times.ensures _ (λ o r h. literal-one _ _ _ (search rules))
