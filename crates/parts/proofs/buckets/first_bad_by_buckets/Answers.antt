-- `parts::buckets::first_bad_by_buckets` meets its contract. The names so far are good, and the tables hold them. Assumes nothing.
use mathlib.Core.Path.{refl, sym, ap, ◌∙◌}
use mathlib.Core.Logic.{inl}
use native.Mathlib.Omega.{arith}
use Rattle.parts.specs.Places.{start}
use Rattle.parts.specs.Buckets.{bucket_of, bucket_at}
use Rattle.parts.proofs.BucketLaws.{filled_none, filled_more}
use Rattle.parts.proofs.Walked.{Walked, started, starts-in-words, left-in-words, one-of, named, ill, again, gone_on, next-starts, ended}
use Rattle.parts.proofs.buckets.first_bad_by_buckets.Goals as goal
use Rattle.parts.proofs.buckets.first_bad_by_buckets.Goals.{After-into_iter-i-iterator}

starts : (c : goal.After-into_iter-i-iterator) → Walked c.args.names c.into_iter-i-iterator.result
starts c =
    let e = c.enumerate-i-items.ensures in
    started c.args.names _ _ _ c.into_iter-i-iterator.ensures.into_iter_gives e.count e.source c.each.ensures

pub loop-i-init-derived : goal.loop-i-init-derived
loop-i-init-derived c = ((tt, tt, inl (omega (arith, left-in-words (starts c)))), tt)

pub loop-i-init : goal.loop-i-init
unfolding start
loop-i-init c =
    let g = c.into_iter-i-iterator.ensures.into_iter_gives in
    let n = c.enumerate-i-items.ensures.count in
    record { walked = starts c; starts = rw (g, n) refl; filled = rw (g, n) filled_none }

pub returns-then-not-well_formed : goal.returns-then-not-well_formed
returns-then-not-well_formed c = ill c.loop-i.invariant.walked c.next.new.self c.in-Some.ensures.steps (sym c.well_formed-in-loop-i.ensures ∙ c.if-not-well_formed.true)

pub returns-then-has_before : goal.returns-then-has_before
returns-then-has_before c = again c.loop-i.invariant.walked c.next.new.self c.in-Some.ensures.steps (sym c.has_before.ensures ∙ c.if-has_before.true)

pub add-requires : goal.add-requires
add-requires c =
    let i = c.loop-i.invariant in
    record {
      i_bound = (
        omega (arith, one-of i.walked c.next.new.self c.in-Some.ensures.steps, c.requires),
        omega (arith, starts-in-words c.args.names c.loop-i.i-iterator.count, i.starts),
        c.bucket_of-bucket.ensures.upper_bound,
      );
    }

pub overflow_add-at : goal.overflow_add-at
overflow_add-at c =
    let i = c.loop-i.invariant in
    record { fits = omega (arith, next-starts i.walked c.next.new.self c.in-Some.ensures.steps _ i.starts, starts-in-words c.args.names c.next.new.self.count) }

pub loop-i-preserved : goal.loop-i-preserved
unfolding bucket_at
loop-i-preserved c =
    let i = c.loop-i.invariant in
    let s = c.in-Some.ensures.steps in
    record {
      walked = gone_on i.walked c.next.new.self s (sym c.well_formed-in-loop-i.ensures ∙ c.if-not-well_formed.false) (sym c.has_before.ensures ∙ c.if-has_before.false);
      starts = next-starts i.walked c.next.new.self s _ i.starts;
      filled = rw (s.2, ← s.1, c.add.ensures.entries, c.add.ensures.lasts) (filled_more (rw s.1 i.filled) (rw s.1 i.starts) (c.bucket_of-bucket.ensures.value ∙ ap bucket_of (named i.walked c.next.new.self s)) c.bucket_of-bucket.ensures.upper_bound (omega (arith, one-of i.walked c.next.new.self s, c.requires)));
    }

pub returns : goal.returns
returns c = ended c.loop-i.invariant.walked c.in-None.ensures.steps.0.0
