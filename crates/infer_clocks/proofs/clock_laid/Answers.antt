-- Its parts, one after another.
use mathlib.Core.Path.{ap}
use Rattle.std.specs.Prelude.{is_ok}
use Rattle.std.proofs.lemmas.Result.{err_from_is_err_and}
use Rattle.infer_clocks.proofs.Laws.{told-deep, formed-not-deep, laid-deep, laid-sunk, laid-found, laid-told, room-stays}
use Rattle.infer_clocks.proofs.Sites.{inferred-here, node-parts, told-by}
use Rattle.infer_clocks.proofs.clock_laid.Goals as goal

pub returns-in_err-passes-clause-clocked_or_deep : goal.returns-in_err-passes-clause-clocked_or_deep
returns-in_err-passes-clause-clocked_or_deep c = λ n q l u.
    let e = err_from_is_err_and c.from_residual.result c.from_residual.ensures.1 in
    rw e.1 (told-deep _ _ _ n _ (laid-deep _ n _ _ _ c.in_err-passes.was (c.infer.ensures n q l u.named).1))

pub returns-in_err-passes-clause-sites_told : goal.returns-in_err-passes-clause-sites_told
returns-in_err-passes-clause-sites_told c = λ n q k l g u z. absurd (formed-not-deep n k g (laid-deep _ n _ _ _ c.in_err-passes.was (c.infer.ensures n q l u.named).1))

pub returns-in_err-findings-clause-clocked_or_deep : goal.returns-in_err-findings-clause-clocked_or_deep
returns-in_err-findings-clause-clocked_or_deep c = λ n q l u.
    let f = c.infer.ensures n q l u.named in
    let e = err_from_is_err_and c.from_residual-in_err-findings.result c.from_residual-in_err-findings.ensures.1 in
    rw e.1 (told-deep _ _ _ n _ (laid-sunk n _ _ _ _ _ _ _ _ c.check_node.ensures.counted c.in_ok-passes.was f.1 f.0 l.equations.items _ c.in_err-findings.was))

pub returns-in_err-findings-clause-sites_told : goal.returns-in_err-findings-clause-sites_told
returns-in_err-findings-clause-sites_told c = λ n q k l g u z.
    let f = c.infer.ensures n q l u.named in
    absurd (formed-not-deep n k g (laid-sunk n _ _ _ _ _ _ _ _ c.check_node.ensures.counted c.in_ok-passes.was f.1 f.0 l.equations.items _ c.in_err-findings.was))

pub returns-then-any_deep-clause-clocked_or_deep : goal.returns-then-any_deep-clause-clocked_or_deep
returns-then-any_deep-clause-clocked_or_deep c = λ n q l u.
    let f = c.infer.ensures n q l u.named in
    told-deep _ _ _ n _ (laid-found n _ _ _ _ _ _ _ _ c.check_node.ensures.counted c.in_ok-passes.was f.1 f.0 l.equations.items _ c.in_ok-findings.was (room-stays c.args.source.now c.args.table.now _ u.rowed c.check_node.auto.table) _ c.any_deep.ensures c.if-any_deep.true)

pub returns-then-any_deep-clause-sites_told : goal.returns-then-any_deep-clause-sites_told
returns-then-any_deep-clause-sites_told c = λ n q k l g u z.
    let f = c.infer.ensures n q l u.named in
    absurd (formed-not-deep n k g (laid-found n _ _ _ _ _ _ _ _ c.check_node.ensures.counted c.in_ok-passes.was f.1 f.0 l.equations.items _ c.in_ok-findings.was (room-stays c.args.source.now c.args.table.now _ u.rowed c.check_node.auto.table) _ c.any_deep.ensures c.if-any_deep.true))

pub returns-clause-clocked_or_deep : goal.returns-clause-clocked_or_deep
returns-clause-clocked_or_deep c = λ n q l u.
    let f = c.infer.ensures n q l u.named in
    laid-told n _ _ _ _ _ _ _ _ c.check_node.ensures.counted c.in_ok-passes.was f.1 f.0 l.equations.items _ c.in_ok-findings.was (room-stays c.args.source.now c.args.table.now _ u.rowed c.check_node.auto.table) _ c.any_deep.ensures c.if-any_deep.false

pub returns-clause-sites_told : goal.returns-clause-sites_told
returns-clause-sites_told c = λ n q k l g u z.
    let f = c.infer.ensures n q l u.named in
    let m = inferred-here _ n _ _ _ c.in_ok-passes.was f.1 in
    let t = node-parts n m.0 k m.1 g in
    told-by t.1 (c.check_node.ensures.by_index n m.0.clocks n.equations _ k.equations (ap is_ok c.in_ok-findings.was) m.2 l.equations.items z t.0)
