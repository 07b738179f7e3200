-- `follow` meets its contract: the table is the definition's.
use Rattle.std.proofs.Common.{rules}
use mathlib.Core.Path.{◌≡◌, ◌∙◌, ap}
use mathlib.Core.List.{List}
use Prim.Native.Nat.{ℕ}
use borrow.Author.Tests.{eq-eqb, ne_eqb}
use lib.ListN.{get_or}
use Rattle.layout.specs.Owed.{parts, follows}
use Rattle.layout.proofs.follow.PartsTable.follow.Goals as goal

pub returns-then-tag-eq-COUNT : goal.returns-then-tag-eq-COUNT
unfolding follows
returns-then-tag-eq-COUNT c = rw (eq-eqb _ _ c.if-tag-eq-COUNT.true)

pub returns : goal.returns
unfolding follows
returns c =
    let found : c.unwrap_or.result ≡ get_or c.args.self.now.table c.from.result 0 = search rules in
    rw (ne_eqb _ _ c.if-tag-eq-COUNT.false) (c.from-2.ensures ∙ found ∙ ap (λ (l : List ℕ). get_or l c.from.result 0) c.args.self.now.known ∙ ap (λ (i : ℕ). get_or parts i 0) c.from.ensures)
