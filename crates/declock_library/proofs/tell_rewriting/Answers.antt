-- `declock_library::tell_rewriting` meets its contract. Assumes nothing.
use mathlib.Core.Path.{◌∙◌}
use Rattle.declock_library.proofs.Told.{told_with}
use Rattle.declock_library.proofs.tell_rewriting.Goals as goal
use Rattle.declock_library.proofs.tell_rewriting.Goals.{in-Ok, in-Err}

pub returns : goal.returns
returns c = elim c.match-a.branch [
  | in-Ok w ↦ told_with _ _ _ w.in-Ok.is (w.a-is ∙ w.in-Ok.is) w.faulty-is c.tell_bytes.ensures
  | in-Err w ↦ told_with _ _ _ w.in-Err.is w.a-is (w.faulty-is ∙ w.faulty_nodes.ensures) c.tell_bytes.ensures
]
