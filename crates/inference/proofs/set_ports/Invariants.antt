-- `inference::set_ports` meets its contract: what is left to do makes the whole.
-- Assumes nothing.
use mathlib.Core.Path.{◌≡◌}
use mathlib.Core.List.{List}
use lib.ListN.{length}
use Rattle.grammar.specs.Read.{tokens_of}
use Rattle.definitions.specs.Tree.{Declared}
use Rattle.definitions.specs.Grammar.{declaration}
use Rattle.layout.specs.Spans.{Spans}
use Rattle.layout.specs.Walk.{declared_left}
use Rattle.inference.specs.Passes.{RoomForNames}
use Rattle.inference.proofs.PassesLaws.{Placing}
use Rattle.inference.proofs.set_ports.Given as goal

abbrev pub invariant-loop-port : goal.invariant-loop-port
invariant-loop-port s =
    (length s.env ≡ length s.initial.env) × (length s.marks ≡ length s.initial.marks) × ((l : List Declared) → Spans (declaration s.source.names) (tokens_of s.source) l s.fn.ports → RoomForNames s.source.names s.initial.env s.initial.marks → Placing s.source s.env s.marks s.initial.env s.initial.marks l (declared_left s.port-iterator))
