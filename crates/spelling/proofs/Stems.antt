-- Laws on the letters of new names.
use Rattle.std.proofs.lemmas.List.{append_cancel_left}
use Prim.Native.Nat.{ℕ, ◌^◌, ◌≤◌, ◌<◌}
use mathlib.Core.Path.{◌≡◌}
use mathlib.Core.List.{◌++◌}
use native.Mathlib.Omega.{arith}
use lib.Dec.{lit≤}
use lib.ListN.{length, length-append}
use Rattle.definitions.specs.Lists.{bytes, decimal}
use Rattle.definitions.specs.Declock.{Stem, ck, first, hold}
use Rattle.definitions.specs.Output.{stem_letters}
use Rattle.spelling.specs.declared.NewName.{NewName}
use Rattle.spelling.specs.Stems.{stem_of, new_letters}
use Rattle.spelling.proofs.Decimal.{decimal-length, decimal-same}

stem-length : (s : Stem) → length (stem_letters s) ≤ 7
unfolding bytes
stem-length ck = lit≤ tt
stem-length first = lit≤ tt
stem-length hold = lit≤ tt

-- a new name is not too long for a name's buffer
pub new-length : (name : NewName) → length (new_letters name) ≤ 32
unfolding bytes
new-length (NewName.Numbered stem n) = simp length-append (omega (arith, stem-length (stem_of stem), decimal-length n))
new-length NewName.Condact = lit≤ tt

-- new names of a stem say their numbers
pub new-same : (s : Stem) (m n : ℕ) → m < 2 ^ 64 → n < 2 ^ 64 → stem_letters s ++ decimal m ≡ stem_letters s ++ decimal n → m ≡ n
new-same s m n h k e = decimal-same m n h k (append_cancel_left (stem_letters s) (decimal m) (decimal n) e)
