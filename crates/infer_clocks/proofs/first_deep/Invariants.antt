-- The nodes left tell what is answered.
use mathlib.Core.Path.{◌≡◌}
use mathlib.Core.List.{List}
use Prim.Native.Nat.{ℕ, ◌+◌, ◌-◌}
use lib.ListN.{length}
use Rattle.grammar.specs.Read.{tokens_of}
use Rattle.definitions.specs.Tree.{Node}
use Rattle.definitions.specs.Reading.{got, times}
use Rattle.definitions.specs.Grammar.{node}
use Rattle.definitions.specs.Answer.{clockings}
use Rattle.infer_clocks.specs.Clocked.{RoomToClock}
use Rattle.infer_clocks.proofs.Laws.{Nodes}
use Rattle.infer_clocks.proofs.first_deep.Given as goal

abbrev pub invariant-loop-k : goal.invariant-loop-k
invariant-loop-k l =
    (length l.env ≡ length l.initial.env) × (length l.marks ≡ length l.initial.marks) × (length l.table ≡ length l.initial.table) × (length l.sites ≡ length l.initial.sites) × ((ns : List Node) (q : ℕ) → times l.count (node l.source.names) (tokens_of l.source) l.at ≡ got ns q → RoomToClock l.source l.initial.env l.initial.marks l.initial.table → Nodes l.source (l.number + l.count - l.k) l.k l.place q (clockings l.number ns))
