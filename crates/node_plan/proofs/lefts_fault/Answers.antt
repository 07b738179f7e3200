-- `node_plan::lefts_fault` meets its contract: one left name after another.
-- Assumes nothing.
use mathlib.Core.Path.{sym, ◌∙◌, ap, subst}
use mathlib.Core.List.{List}
use Prim.Native.Nat.{ℕ, ◌<◌}
use lib.ListN.{length, get_or}
use Rattle.stateless.specs.Faults.{lefts_fault}
use Rattle.planned.proofs.LeftDefaultsLaws.{names-below}
use Rattle.node_plan.specs.Noted.{told_of}
use Rattle.node_plan.proofs.Lefts.{lefts-stop, lefts-next, lefts-end, fails}
use Rattle.node_plan.proofs.lefts_fault.Goals as goal

pub loop-x-preserved : goal.loop-x-preserved
loop-x-preserved c = λ types l node k b. c.loop-x.invariant types l node k b ∙ lefts-next types l node _ _ c.loop-x-test.true (sym (ap told_of c.in_ok-left_fault.was) ∙ c.left_fault.ensures types l node k (b _ c.loop-x-test.true))

pub returns-in_err-left_fault : goal.returns-in_err-left_fault
returns-in_err-left_fault c = λ xs types l node s k.
    let e = c.names_in-names.ensures.spanned xs s in
    let b = subst (λ (ys : List ℕ). (i : ℕ) → i < length ys → get_or ys i 0 < c.args.planning.now.index.now.source.names) (sym e) (names-below _ _ _ c.args.planning.now.index.now.source.same_length _ _ xs _ s.items) in
    ap told_of (fails _ _ c.from_residual.ensures)
    ∙ (lefts-stop types l node _ _ c.loop-x-test.true _ (sym (ap told_of c.in_err-left_fault.was) ∙ c.left_fault.ensures types l node k (b _ c.loop-x-test.true)) ∙ (sym (c.loop-x.invariant types l node k b) ∙ ap (lefts_fault types l node) e))

pub returns : goal.returns
returns c = λ xs types l node s k.
    let e = c.names_in-names.ensures.spanned xs s in
    let b = subst (λ (ys : List ℕ). (i : ℕ) → i < length ys → get_or ys i 0 < c.args.planning.now.index.now.source.names) (sym e) (names-below _ _ _ c.args.planning.now.index.now.source.same_length _ _ xs _ s.items) in
    lefts-end types l node _ _ c.loop-x-test.false ∙ (sym (c.loop-x.invariant types l node k b) ∙ ap (lefts_fault types l node) e)
