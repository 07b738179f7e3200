-- `parts::buckets::Buckets::has_before` meets its contract. The names of the bucket from `earlier` back are left. Assumes nothing.
use Rattle.parts.proofs.BucketLaws.{Left, left}
use Rattle.parts.proofs.buckets.Buckets.has_before.Given as goal

abbrev pub invariant-loop-earlier : goal.invariant-loop-earlier
invariant-loop-earlier l = Left l.names l.count l.name l.earlier

abbrev pub decreases-loop-earlier : goal.decreases-loop-earlier
decreases-loop-earlier l = left l.earlier
