-- `parts::buckets::Buckets::has_before` meets its contract. The names of the bucket from `earlier` back are left. Assumes nothing.
use mathlib.Core.Path.{refl, ap, ◌∙◌}
use native.Mathlib.Omega.{arith}
use lib.ListN.{get_or}
use Rattle.parts.specs.Buckets.{no_entry}
use Rattle.parts.proofs.BucketLaws.{Looked, left, left_at, looked_at, ends-within, fewer, found, left-next}
use Rattle.parts.proofs.buckets.Buckets.has_before.Goals as goal
use Rattle.parts.proofs.buckets.Buckets.has_before.Goals.{After-from}

-- a name of the bucket is looked at
looked : (c : goal.After-from) → Looked c.args.names c.args.count c.args.name.now c.in-Some.place (get_or c.args.self.now.entries c.from-j.result no_entry) c.from.result
looked c = looked_at c.requires.filled (rw c.in-Some.is at c.loop-earlier.invariant) c.from-j.ensures c.from.ensures

pub loop-earlier-init : goal.loop-earlier-init
loop-earlier-init c =
    left_at c.args.names c.args.count c.args.name.now c.args.count _ (omega arith)
    (c.requires.filled.headed c.args.bucket c.requires.bucket_value.0 ∙ rw c.requires.bucket_value.1) refl

pub slice_bounds-eq-end : goal.slice_bounds-eq-end
slice_bounds-eq-end c = omega (arith, ends-within (looked (goal.at.slice_bounds-eq-end c).After-from))

pub returns-then-eq : goal.returns-then-eq
returns-then-eq c = found (looked (goal.at.returns-then-eq c).After-from) _ c.eq.ensures c.if-eq.true

pub loop-earlier-smaller : goal.loop-earlier-smaller
loop-earlier-smaller c = omega (arith, ap left c.in-Some.is, fewer (looked (goal.at.loop-earlier-smaller c).After-from))

pub loop-earlier-preserved : goal.loop-earlier-preserved
loop-earlier-preserved c = left-next (looked (goal.at.loop-earlier-preserved c).After-from) _ c.eq.ensures c.if-eq.false
