-- `emit::Output::emit_all` meets its contract: what is left makes the whole of what is written so far. Assumes nothing.
use mathlib.Core.Path.{◌≡◌}
use lib.ListN.{drop}
use Rattle.emit.specs.Out.{emits}
use Rattle.emit.proofs.output.Output.emit_all.Given as goal

abbrev pub invariant-loop-t : goal.invariant-loop-t
invariant-loop-t l = emits l.initial.self l.ts ≡ emits l.self (drop l.t-index l.ts)
