-- Numbers that are free for new names.
use Prim.Native.Nat.{ℕ, zero, suc, ◌+◌}
use Rattle.std.specs.Prelude.{List, ◌++◌, map, Bool, not}
use Rattle.std.proofs.Math.ListN.{length, get_or}
use Rattle.definitions.specs.Lists.{choose, any, keep, up_from, Letters, same_letters, decimal}
use Rattle.definitions.specs.Tree.{Node}
use Rattle.definitions.specs.Declock.{Stem, declared}
use Rattle.definitions.specs.Output.{stem_letters, letters_of}

module _ (taken : List Letters) (stem : Stem) where
  -- is the stem with this number none of the names taken?
  unfoldable pub is_free : ℕ → Bool
  is_free k = not (any (same_letters (stem_letters stem ++ decimal k)) taken)

  -- the first free number from k on, at most n tried; else the next
  unfoldable pub seek : ℕ → ℕ → ℕ
  unfolding is_free
  seek zero k = k
  seek (suc n) k = choose (is_free k) k (seek n (suc k))

  -- the first free number from k on: of one more than the names taken, one is free
  unfoldable pub next_free : ℕ → ℕ
  unfolding seek
  next_free k = seek (length taken) k

  -- how many numbers below k are free
  unfoldable pub free_below : ℕ → ℕ
  unfolding is_free
  free_below k = length (keep is_free (up_from 0 k))

  -- the j-th number that is free
  unfoldable pub new_number : ℕ → ℕ
  unfolding is_free
  new_number j = get_or (keep is_free (up_from 0 (length taken + suc j))) j 0

  -- the first n of them
  abbrev pub new_numbers : ℕ → List ℕ
  new_numbers n = map new_number (up_from 0 n)

-- the names that a node declares
abbrev pub taken_of : List Letters → Node → List Letters
taken_of names node = map (λ d. letters_of names d.name) (declared node)
