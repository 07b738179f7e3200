-- `parts::buckets::first_bad_by_buckets` meets its contract. The names so far are good, and the tables hold them. Assumes nothing.
use mathlib.Core.Path.{◌≡◌}
use Rattle.parts.specs.Places.{start}
use Rattle.parts.specs.Buckets.{Filled}
use Rattle.parts.proofs.Walked.{Walked}
use Rattle.parts.proofs.buckets.first_bad_by_buckets.Given as goal

abbrev pub invariant-loop-i : goal.invariant-loop-i
invariant-loop-i l =
    record {
      walked : Walked l.names l.i-iterator;
      starts : l.at ≡ start l.names.lengths.now l.i-iterator.count;
      filled : Filled l.names.lengths.now l.names.letters.now l.buckets.entries l.buckets.lasts l.i-iterator.count;
    }
