-- Names in buckets by their letters, so that each is compared with the earlier ones of its bucket only.
use Rattle.std.specs.Prelude.{ℕ, zero, suc, ◌+◌, ◌*◌, ◌/◌, ◌%◌, ◌<◌, ◌≡◌, List, [], ◌∷◌, length, get_or, eqb, Option, None, Some}
use Rattle.definitions.specs.Lists.{Letters, choose}
use Rattle.parts.specs.Places.{start, name_at}
use Rattle.parts.specs.declared.buckets.Entry.{Entry}

-- a hash with one more letter in it
unfoldable pub mixed : ℕ → ℕ → ℕ
mixed hash b = (hash + b) * 40503 % 65536

-- a hash with more letters in it
unfoldable pub hashed : ℕ → Letters → ℕ
hashed hash [] = hash
hashed hash (b ∷ l) = hashed (mixed hash b) l

-- the bucket that letters go to
unfoldable pub bucket_of : Letters → ℕ
bucket_of l = hashed 0 l / 64

-- the bucket of name i
unfoldable pub bucket_at : List ℕ → List ℕ → ℕ → ℕ
unfolding name_at bucket_of
bucket_at lens letters i = bucket_of (name_at lens letters i)

-- the last name before name i that is in bucket b
unfoldable pub last_in : (ℕ → ℕ) → ℕ → ℕ → Option ℕ
last_in bucket b zero = None
last_in bucket b (suc i) = choose (eqb (bucket i) b) (Some i) (last_in bucket b i)

-- no name's entry
abbrev pub no_entry : Entry
no_entry = record { start = 0; previous = None }

-- the tables hold the names before name i: where the letters of each start, the name before it in its bucket, and each bucket's last one
pub record Filled (lens letters : List ℕ) (entries : List Entry) (lasts : List (Option ℕ)) (i : ℕ) : Type 0 where
  pub all-entries : length entries ≡ 1024
  pub all-lasts : length lasts ≡ 1024
  pub entered : (j : ℕ) → j < i →
      get_or entries j no_entry ≡ record { start = start lens j; previous = last_in (bucket_at lens letters) (bucket_at lens letters j) j }
  pub headed : (b : ℕ) → b < 1024 → get_or lasts b None ≡ last_in (bucket_at lens letters) b i
