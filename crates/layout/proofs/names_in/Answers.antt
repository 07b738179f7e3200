-- `layout::names_in` meets its contract: a name is one token.
use native.Mathlib.Omega.{arith}
use Rattle.layout.proofs.Ends.{names-on}
use Rattle.layout.proofs.Laws.{names-lent}
use Rattle.layout.proofs.names_in.Goals as goal

pub returns-clause-read : goal.returns-clause-read
returns-clause-read c = λ l q g.
    let n = names-on _ _ c.args.source.now.same_length _ _ _ l q g in
    names-lent _ _ c.args.source.now.same_length _ _ _ l q g _ _ (omega (arith, n.0)) (λ h. omega (arith, n.0, h))

pub returns-clause-spanned : goal.returns-clause-spanned
returns-clause-spanned c = λ l h. returns-clause-read c l _ h.items
