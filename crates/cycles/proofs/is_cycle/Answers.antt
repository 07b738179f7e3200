-- `cycles::is_cycle` meets its contract: by whether the definition is the first of its name. Assumes nothing.
use mathlib.Core.Path.{sym, ◌∙◌}
use native.Mathlib.Omega.{arith}
use Rattle.std.proofs.lemmas.Bool.{true≢false}
use Rattle.cycles.proofs.Laws.{names-stand, found-this, found-other}
use Rattle.cycles.proofs.is_cycle.Goals as goal

pub returns-then-eq : goal.returns-then-eq
returns-then-eq c = λ types t e.
    let m = names-stand c.args.table.now types t in
    let f = found-this types _ _ _ _ (c.name.ensures ∙ m.same _ c.requires.0) (c.find.ensures.first types m) (sym c.eq.ensures ∙ c.if-eq.true) in
    let r = c.reaches_itself.ensures types e in
    (λ s. (f, sym r ∙ s), λ s. r ∙ s.1)

pub returns-else-eq : goal.returns-else-eq
returns-else-eq c = λ types t e.
    let m = names-stand c.args.table.now types t in
    let o = found-other types _ _ _ _ (c.name.ensures ∙ m.same _ c.requires.0) (c.find.ensures.first types m) (sym c.eq.ensures ∙ c.if-eq.false) (omega (arith, c.requires.0, t.count)) in
    (λ s. absurd (true≢false (sym s ∙ c.if-eq.false)), λ s. absurd (o s.0))
