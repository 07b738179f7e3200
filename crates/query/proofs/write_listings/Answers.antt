-- `query::write_listings` meets its contract: the listings of the nodes so far are put, and no clock of theirs is too deep.
-- Assumes nothing.
use Prim.Native.Nat.{◌<◌}
use mathlib.Core.Path.{refl, ◌∙◌}
use Rattle.std.proofs.Common.{rules}
use Rattle.std.proofs.lemmas.Result.{err_from_is_err_and}
use Rattle.layout.proofs.Walks.{nodes-begin}
use Rattle.workspace.proofs.Kept.{same-first, same-more, list-kept}
use Rattle.query.proofs.Listings.{putting-none, putting-deep, putting-more, putting-all, stands-deep}
use Rattle.query.proofs.write_listings.Goals as goal

pub loop-i-init : goal.loop-i-init
loop-i-init c =
    let e = c.enumerate-i-items.ensures in
    let n = c.nodes.ensures in
    (refl, same-first _, λ ns q g r x. rw (c.into_iter-i-iterator.ensures.into_iter_gives, e.source, e.count) (putting-none _ _ _ q _ _ ns n.2 (nodes-begin n.0 _ _ n.2 n.1 g)))

pub returns-in_err-told-clause-listings_stand : goal.returns-in_err-told-clause-listings_stand
returns-in_err-told-clause-listings_stand c = λ ns q g r x.
    let e = err_from_is_err_and c.from_residual.result c.from_residual.ensures.1 in
    rw (e.1, e.2) (stands-deep _ ns _ _ _ (putting-deep _ _ _ q _ _ _ _ _ _ _ (c.loop-i.invariant.2 ns q g r x) c.in-Some.ensures.steps.0 _ c.in-Some.ensures.steps.1 _ _ _ (λ n s d. c.in_err-told.ensures.clocked_as n s d (list-kept c.loop-i.invariant.1 r).clocks)))

pub loop-i-preserved : goal.loop-i-preserved
loop-i-preserved c =
    let l = c.loop-i in
    let clocked = same-more l.invariant.1 c.clock_laid.ensures.same_room in (
      c.write_listing.ensures.same_reference ∙ l.invariant.0,
      same-more clocked (record { same-env = refl; same-table = refl; same-rows = refl; same-chain = refl; same-sites = refl; env = refl; table = c.write_listing.auto.table; rows = c.write_listing.auto.rows; chain = c.write_listing.auto.chain; sites = c.write_listing.auto.sites }),
      λ ns q g r x.
          putting-more _ _ _ q _ _ _ _ _ _ _ (l.invariant.2 ns q g r x) c.in-Some.ensures.steps.0 _ c.in-Some.ensures.steps.1 _ _ _ c.in-Some.ensures.steps.2 _ _ (λ n s d. c.in_ok-told.ensures.clocked_as n s d (list-kept l.invariant.1 r).clocks) (λ n z. c.write_listing.ensures.wrote n z (list-kept clocked r).chains) (λ n z. c.write_listing.ensures.fits n z (list-kept clocked r).chains x),
    )

pub returns-clause-listings_stand : goal.returns-clause-listings_stand
returns-clause-listings_stand c = λ ns q g r x.
    let few : c.args.nodes.count < 4294967296 = search rules in
    putting-all _ _ _ q _ ns _ _ _ _ _ _ c.requires refl refl few (c.loop-i.invariant.2 ns q g r x) c.in-None.ensures.steps.0
