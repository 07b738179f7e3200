-- `stateless::flag_id` meets its contract.
-- Assumes nothing.
use Rattle.clock_tables.specs.Value.{value_of}
use Rattle.stateless.proofs.Laws.{flag-there}
use Rattle.stateless.proofs.flag_id.Goals as goal

pub returns : goal.returns
returns c = λ h. flag-there c.args.rows.words.now c.args.ids.now c.args.rows.count (value_of c.args.c) _ _ c.find.ensures c.word_at.ensures h
