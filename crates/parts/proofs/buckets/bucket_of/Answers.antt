-- `parts::buckets::bucket_of` meets its contract. Assumes nothing.
use mathlib.Core.Path.{sym, ◌∙◌}
use native.Mathlib.Omega.{arith}
use Rattle.parts.specs.Buckets.{bucket_of}
use Rattle.parts.proofs.BucketLaws.{hashed-step, hashed-end}
use Rattle.parts.proofs.buckets.bucket_of.Goals as goal

pub loop-b-preserved : goal.loop-b-preserved
loop-b-preserved c = (c.mix-hash.ensures.upper_bound, c.loop-b.invariant.1 ∙ (hashed-step c.loop-b.hash c.args.name.now c.loop-b.b-index (omega arith) ∙ rw c.mix-hash.ensures.value))

pub returns-clause-value : goal.returns-clause-value
unfolding bucket_of
returns-clause-value c = sym (rw (c.loop-b.invariant.1, hashed-end c.loop-b.hash c.args.name.now c.loop-b.b-index (omega arith)))
