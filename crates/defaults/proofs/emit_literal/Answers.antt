-- `defaults::emit_literal` meets its contract: an int and a float have a high word.
-- Assumes nothing.
use mathlib.Core.Logic.{inl, inr}
use Rattle.defaults.proofs.Written.{then}
use Rattle.defaults.proofs.emit_literal.Goals as goal

pub returns-in-Int : goal.returns-in-Int
returns-in-Int c = elim c.in-Int.is [
  | inl w ↦ then _ _ _ _ _ _ c.emit.ensures c.emit-in-Int.ensures (rw w.1)
  | inr w ↦ then _ _ _ _ _ _ c.emit.ensures c.emit-in-Int.ensures (rw w.1)
]
