-- `new_names::declared_ids::DeclaredIds::of` meets its contract. Assumes nothing.
use mathlib.Core.Path.{refl}
use Rattle.new_names.proofs.Ids.{three-put}
use Rattle.new_names.proofs.declared_ids.DeclaredIds.of.Goals as goal

pub returns : goal.returns
returns c = λ n q h few. three-put n.inputs n.outputs n.locals _ _ _ _ _ _ _ few (c.add.ensures n.inputs h.inputs) (c.add-2.ensures n.outputs h.outputs) (c.add-3.ensures n.locals h.locals) refl
