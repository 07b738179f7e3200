use Rattle.clock_tables.proofs.put_row.Goals as goal

pub returns-then-i-rows-clause-words : goal.returns-then-i-rows-clause-words
returns-then-i-rows-clause-words c = λ l. c.store.ensures.words
