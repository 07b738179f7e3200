-- `questions::rewrite` meets its contract. Assumes nothing.
use mathlib.Core.Path.{refl, sym, ◌∙◌}
use Rattle.std.proofs.Common.{rules}
use Rattle.std.proofs.lemmas.Result.{err_from_is_err_and}
use Rattle.workspace.proofs.Kept.{to-plan}
use Rattle.questions.proofs.Demand.{rewritten, rewrite-down}
use Rattle.questions.proofs.rewrite.Goals as goal

pub returns-in_err-read-clause-rewrite_given : goal.returns-in_err-read-clause-rewrite_given
returns-in_err-read-clause-rewrite_given c = let e = err_from_is_err_and c.from_residual.result c.from_residual.ensures.1 in
    rw (e.1, e.2) (rewrite-down c.args.sheet.now c.args.out.now c.args.faults.now _ c.in_err-read.ensures.refused)

pub returns-then-not-uses_clocks : goal.returns-then-not-uses_clocks
returns-then-not-uses_clocks c =
    let b = c.args.sheet.now in
    let z = c.in_ok-read.ensures.read in
    let t = z.2 in
    let g = c.as_it_came.ensures z.1 c.args.faults.now t.are-bytes t.reading (sym (c.uses_clocks.ensures z.1.sheet _ t.tree) ∙ c.if-not-uses_clocks.true) in
    let w = rewritten b _ _ _ _ t.are-bytes g refl refl in
    record { rewrite_given = w.0; demand_three = w.1 }

pub returns : goal.returns
returns c =
    let b = c.args.sheet.now in
    let z = c.in_ok-read.ensures.read in
    let u = c.answer_read.ensures z.1 (rw z.0 z.2) in
    let g = u.called.met.1.1 _ z.1 u.read (to-plan u.room u.read.standing.few-tokens) in
    let g = rw z.0 at g in
    record {
      rewrite_given = (rewritten b _ _ _ _ z.2.are-bytes g (search rules) (search rules)).0;
      demand_three = (rewritten b _ _ _ _ z.2.are-bytes g (search rules) refl).1;
    }
