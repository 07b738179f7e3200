-- `parts::TokenArrays::none` meets its contract. Assumes nothing.
use mathlib.Core.Path.{refl}
use Rattle.parts.proofs.TokenArrays.none.Goals as goal

pub returns : goal.returns
returns c = (refl, refl)
