-- There are no more sites than findings.
use mathlib.Core.Path.{sym, ◌∙◌}
use native.Mathlib.Omega.{arith}
use Rattle.std.proofs.Common.{rules, ◌≡◌, []}
use Rattle.clock_tables.proofs.RowsLaws.{has-none}
use Rattle.chain_order.specs.Order.{row_of}
use Rattle.chain_order.proofs.Laws.{picked-taken}
use Rattle.infer_clocks.proofs.Laws.{sites-fit, chains-sorted}
use Rattle.infer_clocks.proofs.chain_rows.Goals as goal

pub returns : goal.returns
returns c = λ r.
    let u = r.rowed in
    let v = r.placed in
    let w = r.numbered in
    let l = c.site_rows.ensures in
    let held = l.held [] (has-none _) in
    let fit = sites-fit c.args.findings.words.now c.args.rows.now c.site_rows.new.rows _ _ u l.same_length held in
    let e : c.unwrap_or.result ≡ c.site_rows.result = search (rules, fit, v, w) in
    let few = c.sort_rows-count.ensures.upper_bound in
    sym (picked-taken (row_of c.site_rows.new.rows) c.sort_rows-count.new.order 0 c.sort_rows-count.result (omega (arith, c.sort_rows-count.ensures.order_len_unchanged, few, e, fit, v)))
    ∙ chains-sorted c.args.findings.words.now c.args.rows.now c.site_rows.new.rows _ _ u l.same_length held _ _ (rw e at c.sort_rows-count.ensures.result_after)
