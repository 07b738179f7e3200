-- What is answered and what the caller's bytes are afterwards.
use Rattle.std.specs.Prelude.{ℕ, ◌<◌, ◌≤◌, ◌≡◌, List, [], ◌∷◌, ◌++◌, map, leb, length, Result, Ok, Err}
use Rattle.definitions.specs.Lists.{choose, join, over, Letters}
use Rattle.definitions.specs.Tokens.{TagValue, words}
use Rattle.definitions.specs.Bytes.{bad_name, most_names, most_letters, fewest_tokens, most_tokens}
use Rattle.definitions.specs.Output.{word_bytes}
use Rattle.definitions.specs.declared.Refusal.{Refusal}

-- how many bytes are written, where the caller's are enough, else 12 with the number needed
unfoldable pub written_answer : List ℕ → List ℕ → Result ℕ Refusal
written_answer bytes lent = choose (leb (length bytes) (length lent)) (Ok (length bytes)) (Err (Refusal.Lent (length bytes)))

-- "An accepted output fills its first bytes, the rest unchanged"; too few stay as they are
unfoldable pub written_bytes : List ℕ → List ℕ → List ℕ
written_bytes bytes lent = choose (leb (length bytes) (length lent)) (over bytes lent) lent

-- the bytes of a sheet by its lengths, letters, tags and values
unfoldable pub plain_bytes : List ℕ → List ℕ → List ℕ → List ℕ → List ℕ
plain_bytes lengths letters tags values =
    word_bytes (length lengths) ++ (word_bytes (length letters) ++ (word_bytes (length tags)
    ++ (lengths ++ (letters ++ (tags ++ join (map word_bytes values))))))

-- each number is below n
abbrev pub AllBelow : ℕ → List ℕ → Type 0
AllBelow n [] = Unit {0}
AllBelow n (x ∷ l) = (x < n) × AllBelow n l

-- names and tokens that a sheet may hold
pub record Within (names : List Letters) (ts : List TagValue) : Type 0 where
  pub few : length names ≤ most_names
  pub short : length (join names) ≤ most_letters
  pub distinct : bad_name [] names ≡ length names
  pub least : fewest_tokens ≤ length ts
  pub most : length ts ≤ most_tokens
  pub small : AllBelow words (map (λ k. k.value) ts)
