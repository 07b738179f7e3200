-- The answer that the code gives to what the definition answers, and what stands in the working arrays afterwards.
use Rattle.std.specs.Prelude.{ℕ, suc, ◌+◌, ◌*◌, ◌^◌, ◌≤◌, ◌<◌, ◌≡◌, List, [], length, get_or, Result, Ok, Err, Option, Some, None}
use Rattle.definitions.specs.declared.Refusal.{Refusal}
use Rattle.definitions.specs.Lists.{sum, over}
use Rattle.definitions.specs.Refusals.{Answer, accepted, refused, faulty, Told, fine, down}
use Rattle.definitions.specs.Bytes.{Parts, M, L, T, lengths, letters, tags, values, tokens, cut, bad_name, parts, most_names, most_letters, fewest_tokens, most_tokens}
use Rattle.parts.specs.declared.Sizes.{Sizes}

-- the word of four bytes at a place, low byte first
unfoldable pub word_at : List ℕ → ℕ → ℕ
word_at l at = get_or l at 0 + 2 ^ 8 * get_or l (suc at) 0 + 2 ^ 16 * get_or l (suc (suc at)) 0 + 2 ^ 24 * get_or l (suc (suc (suc at))) 0

-- a sheet's sizes
abbrev pub sizes_of : List ℕ → Sizes
sizes_of bytes = record { names = M bytes; letters = L bytes; tokens = T bytes }

-- the names and tokens at the places that the sizes say
unfoldable pub parts_of : List ℕ → Parts
parts_of bytes = record { names = cut (lengths bytes) (letters bytes); tokens = tokens (tags bytes) (values bytes) }

-- the code's answer: the sizes, or the refusal
abbrev pub answered : Answer Parts → List ℕ → Result Sizes Refusal
answered (accepted p) bytes = Ok (sizes_of bytes)
answered (refused r) bytes = Err r
answered (faulty l) bytes = Err (Refusal.Faulty (length l))

-- the refusal that the code's answer tells, where it does
abbrev pub told_of : Result Sizes Refusal → Told
told_of (Ok s) = fine
told_of (Err r) = down r

-- the code's answer for a sheet
unfoldable pub parts_answer : List ℕ → Result Sizes Refusal
parts_answer bytes = answered (parts bytes) bytes

-- the working array of tags: an accepted sheet's are written over its front, and a refusal writes nothing
abbrev pub tags_after : Answer Parts → List ℕ → List ℕ → List ℕ
tags_after (accepted p) bytes lent = over (tags bytes) lent
tags_after (refused r) bytes lent = lent
tags_after (faulty l) bytes lent = lent

-- the same for the values
abbrev pub values_after : Answer Parts → List ℕ → List ℕ → List ℕ
values_after (accepted p) bytes lent = over (values bytes) lent
values_after (refused r) bytes lent = lent
values_after (faulty l) bytes lent = lent

-- these are the sheet's sizes, each is within its limit, and they give the sheet's length
pub record SizedParts (bytes : List ℕ) (s : Sizes) : Type 0 where
  pub told : s ≡ sizes_of bytes
  pub long : 12 ≤ length bytes
  pub names : M bytes ≤ most_names
  pub letters : L bytes ≤ most_letters
  pub few : fewest_tokens ≤ T bytes
  pub many : T bytes ≤ most_tokens
  pub whole : length bytes ≡ 12 + M bytes + L bytes + 5 * T bytes

-- what the reading of the sizes tells
unfoldable pub SizesTold : Result Sizes Refusal → List ℕ → Type 0
SizesTold (Ok s) bytes = SizedParts bytes s
SizesTold (Err r) bytes = parts bytes ≡ refused r

-- the first of the names of these lengths that is ill formed or repeats an earlier one; nothing, where none does
abbrev pub FirstBad : List ℕ → List ℕ → Option ℕ → Type 0
FirstBad lens letters (Some i) = (i ≡ bad_name [] (cut lens letters)) × (i < length lens)
FirstBad lens letters None = bad_name [] (cut lens letters) ≡ length lens

-- refusals 1 to 4 do not apply
pub record Accepted (bytes : List ℕ) : Type 0 where
  pub sized : SizedParts bytes (sizes_of bytes)
  pub summed : sum (lengths bytes) ≡ L bytes
  pub distinct : bad_name [] (cut (lengths bytes) (letters bytes)) ≡ M bytes
