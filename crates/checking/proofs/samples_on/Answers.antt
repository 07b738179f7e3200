-- A fault of a clock name.
use Rattle.std.proofs.Common.{rules}
use Rattle.definitions.specs.InferClocks.{clock_name_elsewhere}
use Rattle.clock_tables.specs.Value.{value_of}
use Rattle.checking.proofs.samples_on.Goals as goal

pub returns-clause-held : goal.returns-clause-held
returns-clause-held c = λ clocks k. c.must_be_on.ensures.held (λ d. clock_name_elsewhere c.args.x d (value_of c.args.on)) clocks (λ d f p. search rules) k
