-- By whether the natural clock is too deep.
use mathlib.Core.Path.{◌≡◌, sym, ap, ◌∙◌}
use Rattle.std.proofs.lemmas.Result.{err_from_is_err_and}
use Rattle.definitions.specs.InferClocks.{or_base}
use Rattle.clock_tables.specs.Value.{natural_of, option_of}
use Rattle.checking.proofs.Laws.{or_value}
use Rattle.checking.proofs.Left.{left-laid}
use Rattle.infer_clocks.proofs.Laws.{natural-told, one-deep, one_found}
use Rattle.infer_clocks.proofs.Sites.{formed-value, stored_on}
use Rattle.infer_clocks.proofs.check_one.Goals as goal

pub returns-in_err-own-clause-tallied : goal.returns-in_err-own-clause-tallied
returns-in_err-own-clause-tallied c = λ node clocks e q fs a g w.
    let p = left-laid c.args.input.now.source c.args.at _ c.names_at-left.ensures e q g in
    let v = err_from_is_err_and c.from_residual.result c.from_residual.ensures.1 in
    rw v.1 (one-deep node clocks _ fs _ e _ _ _ _ (c.natural_clock.ensures e.right q clocks p.1 a.agrees) c.in_err-own.was)

pub returns-in_err-own-clause-equation_stored : goal.returns-in_err-own-clause-equation_stored
returns-in_err-own-clause-equation_stored c = λ clocks e q o a g w.
    let p = left-laid c.args.input.now.source c.args.at _ c.names_at-left.ensures e q g in
    absurd (natural-told _ _ _ _ (c.natural_clock.ensures e.right q clocks p.1 a) c.in_err-own.was w)

pub returns-clause-ends : goal.returns-clause-ends
returns-clause-ends c = λ e q end g r. let y : c.check_equation.result ≡ end = cc in sym y ∙ c.check_equation.ensures.ends e q g

pub returns-clause-tallied : goal.returns-clause-tallied
returns-clause-tallied c = λ node clocks e q fs a g w.
    let p = left-laid c.args.input.now.source c.args.at _ c.names_at-left.ensures e q g in
    one_found node clocks _ fs _ e _ _ _ _ (c.natural_clock.ensures e.right q clocks p.1 a.agrees) c.in_ok-own.was (or_value _ _ _ c.base.ensures c.unwrap_or-on.ensures) ((c.check_equation.ensures.held node clocks e q a g).held fs w)

pub returns-clause-equation_stored : goal.returns-clause-equation_stored
returns-clause-equation_stored c = λ clocks e q o a g w.
    let p = left-laid c.args.input.now.source c.args.at _ c.names_at-left.ensures e q g in
    let k = formed-value _ (option_of c.in_ok-own.own) o (sym (c.natural_clock.ensures e.right q clocks p.1 a) ∙ ap natural_of c.in_ok-own.was) w in
    stored_on (or_value _ _ _ c.base.ensures c.unwrap_or-on.ensures ∙ ap or_base k) (c.check_equation.ensures.stored e q g)
