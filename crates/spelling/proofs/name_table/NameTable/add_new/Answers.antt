-- `spelling::name_table::NameTable::add_new` meets its contract. Assumes nothing.
use mathlib.Core.Path.{◌≡◌}
use mathlib.Core.Bool.{false}
use Rattle.std.specs.Prelude.{is_some}
use Rattle.definitions.specs.Output.{add_name}
use Rattle.spelling.specs.Table.{NamesHeld}
use Rattle.spelling.proofs.Table.{stays-full, stays-there, goes_on}
use Rattle.spelling.proofs.name_table.NameTable.add_new.Goals as goal
use Rattle.spelling.proofs.name_table.NameTable.add_new.Goals.{else-not-self-via-then-not-self+else-is_none, else-not-self-via-else-not-self}

pub returns-then-is_none : goal.returns-then-is_none
returns-then-is_none g c =
    let none : is_some c.find_name.result ≡ false = rw c.if-is_none.true at c.is_none.ensures in
    λ names h. rw c.spell-letters.ensures.value at (goes_on _ names h c.find_name.result c.if-not-self.true (rw (c.each.ensures.value, c.each.ensures.count) at c.find_name.ensures.value) none c.add_last.ensures)

pub returns-else-not-self : goal.returns-else-not-self
returns-else-not-self g c = λ names h.
    let kept : NamesHeld c.args.self.now (add_name names c.spell-letters.result.now) =
    elim c.else-not-self.branch [
      | else-not-self-via-then-not-self+else-is_none w ↦ stays-there _ names h w.find_name.result w.if-not-self.true (rw (w.each.ensures.value, w.each.ensures.count) at w.find_name.ensures.value) (rw w.each.ensures.count at w.find_name.ensures.in_bounds) (rw w.if-is_none.false at w.is_none.ensures)
      | else-not-self-via-else-not-self w ↦ stays-full c.spell-letters.result.now names h w.if-not-self.false
    ] in
    rw c.spell-letters.ensures.value at kept
