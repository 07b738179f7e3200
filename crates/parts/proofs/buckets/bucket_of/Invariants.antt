-- `parts::buckets::bucket_of` meets its contract. The loop has mixed the letters so far into the hash. Assumes nothing.
use Prim.Native.Nat.{◌<◌}
use mathlib.Core.Path.{◌≡◌}
use lib.ListN.{drop}
use Rattle.parts.specs.Buckets.{hashed}
use Rattle.parts.proofs.buckets.bucket_of.Given as goal

abbrev pub invariant-loop-b : goal.invariant-loop-b
invariant-loop-b l = (l.hash < 65536) × (hashed 0 l.name ≡ hashed l.hash (drop l.b-index l.name))
