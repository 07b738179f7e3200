-- The check finds this alone. It stands here so that an edit is refused by it.
use mathlib.Core.Path.{◌≡◌, ◌∙◌}
use mathlib.Core.Bool.{false}
use borrow.Author.Rules.{rules}
use lib.ListN.{get_or}
use Rattle.std.specs.Option.{unwrap_or}
use Rattle.inference.proofs.is_port.Goals as goal

pub returns : goal.returns
returns c =
    let e : unwrap_or c.copied.result false ≡ get_or c.args.marks.now c.args.x false = search rules in
    c.unwrap_or.ensures ∙ e
