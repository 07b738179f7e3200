-- A fault of a left name says whether it is an input or output.
use Rattle.std.proofs.Common.{rules}
use Rattle.std.specs.Prelude.{false, get_or}
use Rattle.definitions.specs.InferClocks.{left_elsewhere}
use Rattle.clock_tables.specs.Value.{value_of}
use Rattle.checking.proofs.Laws.{left-told}
use Rattle.checking.proofs.left_on.Goals as goal

pub returns-clause-held : goal.returns-clause-held
returns-clause-held c = λ clocks k.
    c.must_be_on.ensures.held (λ d. left_elsewhere c.args.x d (value_of c.args.on) (get_or c.args.input.now.ports.now c.args.x false)) clocks (λ d f p. left-told c.args.x d c.args.on f c.is_port-port.result _ (search rules) c.is_port-port.ensures) k
