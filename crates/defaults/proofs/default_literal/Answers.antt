-- The check finds this alone. It stands here so that an edit is refused by it.
use mathlib.Core.Path.{refl}
use Rattle.defaults.proofs.default_literal.Goals as goal

pub returns-in-Char : goal.returns-in-Char
returns-in-Char c = rw c.in-Char.is refl
