-- `inference::read_equation` meets its contract: by what the natural clock of the right side is.
-- Assumes nothing.
use mathlib.Core.Path.{ap, ◌∙◌}
use Rattle.std.specs.Prelude.{Ok}
use Rattle.std.proofs.lemmas.Result.{err_from_is_err_and}
use Rattle.inference.proofs.PassesLaws.{lies, equation-free, equation-on, equation-deep}
use Rattle.inference.proofs.read_equation.Goals as goal

pub returns-in_err-c-clause-held : goal.returns-in_err-c-clause-held
returns-in_err-c-clause-held c = λ n p e q b m g s.
    let l = lies c.args.round.now.source.now c.args.at _ c.names_at-left.ensures e q g in
    let v = err_from_is_err_and c.from_residual.result c.from_residual.ensures.1 in
    rw v.1 (equation-deep n e p c.args.round.now.present c.args.tables.now.since.now _ (c.natural_clock.ensures e.right q p.clocks l.right (rw (← c.clocks.ensures) at s.agrees)) _ _ _ _ _ b c.in_err-c.was)

pub returns-in_default-clause-held : goal.returns-in_default-clause-held
returns-in_default-clause-held c = λ n p e q b m g s.
    let l = lies c.args.round.now.source.now c.args.at _ c.names_at-left.ensures e q g in
    equation-free n e p c.args.round.now.present _ _ (c.natural_clock.ensures e.right q p.clocks l.right (rw (← c.clocks.ensures) at s.agrees)) _ _ _ (c.in_ok-c.was ∙ ap Ok c.in_default.is) s

pub returns-clause-held : goal.returns-clause-held
returns-clause-held c = λ n p e q b m g s.
    let l = lies c.args.round.now.source.now c.args.at _ c.names_at-left.ensures e q g in
    equation-on n e p c.args.round.now.present _ _ (c.natural_clock.ensures e.right q p.clocks l.right (rw (← c.clocks.ensures) at s.agrees)) c.in-Some.c _ _ _ b _ (c.in_ok-c.was ∙ ap Ok c.in-Some.is) (c.give_names.ensures.held n p e.left _ b m l.left.items s)
