-- A rewritten node, and the names that it adds, by what it needs.
use mathlib.Core.List.{List, ◌++◌, map}
use Rattle.definitions.specs.Lists.{choose, up_from, Letters, bytes}
use Rattle.definitions.specs.Tree.{Equation, Node}
use Rattle.definitions.specs.Clock.{in_chain_order}
use Rattle.definitions.specs.Declock.{Hold, ck, first, hold, clock_place}
use Rattle.definitions.specs.Output.{letters_of, new_letters, add_name, add_names}
use Rattle.stateless.specs.Need.{Needs}
use Rattle.stateless.specs.Yield.{Ids, Yield}
use Rattle.stateless.specs.Locals.{Local, flag_locals, first_locals, hold_locals, with_locals}

module _ (names : List Letters) where
  -- "activation flags, then first-tick flags, both in chain order, then holds as made"
  abbrev pub locals_by : Ids → Needs → List Hold → List Local
  locals_by ids w holds = flag_locals ids (in_chain_order (letters_of names) w.flags) ++ (first_locals ids (in_chain_order (letters_of names) w.firsts) ++ hold_locals ids 0 holds)

  -- the node with these needs, whose old equations yield y
  abbrev pub node_by : Ids → Node → Needs → Yield (List Equation) → Node
  node_by ids node w y = with_locals node (locals_by ids w y.holds) y.value

  -- the letters of its new names, in the order of its new locals
  unfoldable pub new_names : Node → Needs → List Letters
  unfolding new_letters in_chain_order
  new_names node w =
      map (λ c. new_letters names node ck (clock_place c w.flags)) (in_chain_order (letters_of names) w.flags)
      ++ (map (λ c. new_letters names node first (clock_place c w.firsts)) (in_chain_order (letters_of names) w.firsts)
      ++ map (new_letters names node hold) (up_from 0 w.holds))

  -- all names with those that it adds: "new locals in order, then `condact` if that node first needs it"
  abbrev pub names_by : List Letters → Node → Needs → List Letters
  names_by all node w = let more = add_names all (new_names node w) in choose w.condact (add_name more (bytes "condact")) more
