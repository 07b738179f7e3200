-- `listings::lend_put` meets its contract: what was put aside is lent, and what is put again was measured. Assumes nothing.
use native.Mathlib.Omega.{arith}
use mathlib.Core.Path.{subst, sym, ◌∙◌}
use Rattle.std.proofs.lemmas.Result.{err_from_is_err_and}
use Rattle.workspace.proofs.Kept.{same-first}
use Rattle.listings.specs.Answers.{ListingGiven}
use Rattle.listings.proofs.All.{aside-refused, aside-lent, aside-few, put-again, put-same}
use Rattle.listings.proofs.lend_put.Goals as goal

pub returns-in_err-m-clause-given : goal.returns-in_err-m-clause-given
returns-in_err-m-clause-given g c = λ v P. let e = err_from_is_err_and c.from_residual.result c.from_residual.ensures.1 in
    rw (e.1, e.2) (aside-refused v c.args.aside.now c.put.new.arg2 c.args.out.now _ (P _ _ _ _ _ (same-first _) c.in_err-m.ensures))

pub returns-then-m-aside-clause-given : goal.returns-then-m-aside-clause-given
returns-then-m-aside-clause-given g c = λ v P. aside-lent v _ _ _ _ (P _ _ _ _ _ (same-first _) c.in_ok-m.ensures) (omega (arith, c.if-m-aside.true, c.put.auto.arg2)) _ _ c.lend.ensures

pub returns-then-out-m-clause-given : goal.returns-then-out-m-clause-given
returns-then-out-m-clause-given g c = λ v P. aside-few v _ _ _ _ (P _ _ _ _ _ (same-first _) c.in_ok-m.ensures) c.if-out-m.true

pub returns-in_err-put-clause-given : goal.returns-in_err-put-clause-given
returns-in_err-put-clause-given g c = λ v P.
    let m = P _ _ _ _ _ (same-first _) c.in_ok-m.ensures in
    let e = put-same v _ _ _ _ m _ _ (P _ _ _ _ _ (c.requires.keeps _ _ _ _ _ c.put.ensures) c.put-2.ensures) in
    let f = sym e ∙ c.in_err-put.was in
    absurd cc

pub returns-clause-given : goal.returns-clause-given
returns-clause-given g c = λ v P.
    let m = P _ _ _ _ _ (same-first _) c.in_ok-m.ensures in
    let s = P _ _ _ _ _ (c.requires.keeps _ _ _ _ _ c.put.ensures) c.put-2.ensures in
    subst (ListingGiven _ _ _) (put-same v _ _ _ _ m _ _ s) (put-again v _ _ _ _ m _ _ c.if-out-m.false s)
