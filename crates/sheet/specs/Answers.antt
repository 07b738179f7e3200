-- The answer that the code gives to what the definition answers, and what stands in the working arrays afterwards.
use Rattle.std.specs.Prelude.{ℕ, ◌≤◌, ◌≡◌, List, [], eqb, length, take}
use Rattle.definitions.specs.declared.Refusal.{Refusal}
use Rattle.definitions.specs.Tokens.{TagValue}
use Rattle.definitions.specs.Tree.{Sheet}
use Rattle.definitions.specs.Refusals.{Answer, accepted, Told, fine, down, told, must, ◌>>=◌}
use Rattle.definitions.specs.Reading.{got}
use Rattle.definitions.specs.Bytes.{M, T, lengths, letters, tags, values, cut, tokens, parts}
use Rattle.definitions.specs.Grammar.{sheet}
use Rattle.definitions.specs.Types.{first_cycle}
use Rattle.definitions.specs.Answer.{Input, answered, input}
use Rattle.parts.specs.Answers.{sizes_of, tags_after, values_after}
use Rattle.std.specs.Prelude.{Result, Ok, Err}
use Rattle.parts.specs.declared.Sizes.{Sizes}
use Rattle.shapes.specs.Shape.{Bytes}
use Rattle.grammar.specs.declared.source.Source.{Source}
use Rattle.grammar.specs.Read.{tokens_of}

-- refusals 5 to 7, of so many names and these tokens: that part of `input`
unfoldable pub tokens_answer : ℕ → List TagValue → Answer Sheet
tokens_answer names ts =
    answered (sheet names ts 0) >>= λ s.
    must (eqb (first_cycle s.types [] s.types) (length s.types)) (Refusal.Cycle (first_cycle s.types [] s.types)) >>= λ _.
    accepted s

-- the refusal that the code's answers tell, where they do
abbrev pub checked_told : {A : Type 0} → Result A Refusal → Told
checked_told (Ok s) = fine
checked_told (Err r) = down r

-- the code's answer: the sizes, or the refusal
abbrev pub sheet_answered : Told → List ℕ → Result Sizes Refusal
sheet_answered fine bytes = Ok (sizes_of bytes)
sheet_answered (down r) bytes = Err r

-- the sheet that the definition reads stands at the front of the working arrays
pub record Stands (bytes ts vs : List ℕ) (r : Input) : Type 0 where
  pub few-names : M bytes ≤ 1024
  pub few-tokens : T bytes ≤ 4096
  pub names : r.names ≡ cut (lengths bytes) (letters bytes)
  pub names-count : length r.names ≡ M bytes
  pub front-tags : take (T bytes) ts ≡ tags bytes
  pub front-values : take (T bytes) vs ≡ values bytes
  pub tags-count : length (take (T bytes) ts) ≡ T bytes
  pub values-count : length (take (T bytes) vs) ≡ T bytes
  pub tree : sheet (M bytes) (tokens (take (T bytes) ts) (take (T bytes) vs)) 0 ≡ got r.sheet (T bytes)

-- what `read` answers and leaves, for any bytes; ts and vs are the working arrays before, ts' and vs' afterwards:
-- refusals 1 to 4 leave them unchanged; else the sheet's tags and values are written over their front
pub record SheetRead (bytes ts vs ts' vs' : List ℕ) (r : Result Sizes Refusal) : Type 0 where
  pub answer : r ≡ sheet_answered (told (input bytes)) bytes
  pub tags : ts' ≡ tags_after (parts bytes) bytes ts
  pub values : vs' ≡ values_after (parts bytes) bytes vs
  pub stands : (i : Input) → input bytes ≡ accepted i → Stands bytes ts' vs' i

-- these are the tokens of the sheet i, which these bytes say
pub record TokensRead (bytes : List ℕ) (source : Source) (i : Input) : Type 0 where
  pub are-bytes : Bytes bytes
  pub reading : input bytes ≡ accepted i
  pub names : i.names ≡ cut (lengths bytes) (letters bytes)
  pub count : source.names ≡ M bytes
  pub few : length source.tags.now ≤ 4096
  pub tree : sheet source.names (tokens_of source) 0 ≡ got i.sheet (length source.tags.now)
