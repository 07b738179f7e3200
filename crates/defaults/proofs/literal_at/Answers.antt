-- `defaults::literal_at` meets its contract: by the first token.
-- Assumes nothing.
use Rattle.layout.proofs.TypedefsLaws.{type-is-basic}
use Rattle.defaults.proofs.literal_at.Goals as goal

pub returns-in-Ok-Basic-default : goal.returns-in-Ok-Basic-default
returns-in-Ok-Basic-default c = let b = c.in-Ok-Basic-default in λ d t q g. (_, type-is-basic _ _ _ _ c.type_head.ensures _ t q g _ _ b.is _ b.field-0-0-is, c.default_literal.ensures)
