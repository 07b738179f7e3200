-- `layout::declaration_at` meets its contract: the type stands behind the name.
use Rattle.layout.proofs.TypedefsLaws.{err-of, ok-of}
use Rattle.grammar.proofs.Got.{no}
use Rattle.layout.proofs.Laws.{laid-declaration}
use Rattle.layout.proofs.declaration_at.Goals as goal

pub returns-in_err-end-clause-read : goal.returns-in_err-end-clause-read
returns-in_err-end-clause-read c = λ d q g. let e = err-of _ _ c.ok.ensures.value c.in_err-end.was in absurd (no _ d q _ e.0 g c.read_declaration.ensures e.1)

pub returns-clause-read : goal.returns-clause-read
returns-clause-read c = λ d q g.
    laid-declaration _ _ c.args.source.now.same_length _ _ d q g _ c.read_declaration.ensures _ (ok-of _ _ _ c.ok.ensures.value c.in_ok-end.was) _ _ c.value_at-name.ensures c.behind-type_at.ensures
