-- `query::write_listings` meets its contract: the listings of the nodes so far are put, and no clock of theirs is too deep.
-- Assumes nothing.
use mathlib.Core.Path.{◌≡◌}
use mathlib.Core.List.{List}
use Prim.Native.Nat.{ℕ}
use Rattle.definitions.specs.Tree.{Node}
use Rattle.definitions.specs.Reading.{got, times}
use Rattle.definitions.specs.Grammar.{node}
use Rattle.definitions.specs.Answer.{clockings}
use Rattle.grammar.specs.Read.{tokens_of}
use Rattle.spelling.specs.Places.{letters_in}
use Rattle.spelling.specs.Named.{Short}
use Rattle.workspace.specs.Room.{SameRoom, RoomToList}
use Rattle.query.proofs.Listings.{Putting}
use Rattle.query.proofs.write_listings.Given as goal

abbrev pub invariant-loop-i : goal.invariant-loop-i
invariant-loop-i l =
    (l.text.out.ghost_name ≡ l.initial.text.out.ghost_name) × SameRoom l.initial.working l.working
    × ((ns : List Node) (q : ℕ) → times l.fn.nodes.count (node l.fn.named.source.names) (tokens_of l.fn.named.source) l.fn.nodes.at ≡ got ns q → RoomToList l.fn.named.source l.initial.working → Short l.fn.named → Putting l.fn.named.source (letters_in l.fn.named.spelling) l.fn.nodes.count l.i-iterator.count q l.i-iterator.iter l.initial.text l.text (clockings 0 ns))
