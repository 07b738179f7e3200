-- `spelling::names::Spelling::name` meets its contract. Assumes nothing.
use mathlib.Core.Path.{refl, ap, ◌∙◌}
use Rattle.spelling.proofs.Places.{span-read}
use Rattle.spelling.proofs.names.Spelling.name.Goals as goal

pub returns : goal.returns
returns c = ap (λ l. l.now) c.unwrap_or.ensures ∙ span-read _ _ _ _ _ c.start-from.ensures c.start-to.ensures _ _ refl c.get.ensures.lookup
