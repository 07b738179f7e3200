-- What lending bytes for a text gives.
use Rattle.std.specs.Prelude.{ℕ, ◌≡◌, List, length, Result, Ok, Err}
use Rattle.std.specs.Borrow.{MutBor}
use Rattle.definitions.specs.declared.Refusal.{Refusal}
use Rattle.definitions.specs.Lists.{Letters}
use Rattle.definitions.specs.Refusals.{Answer, accepted, refused, lending, place, bytes_after, ◌>>=◌}
use Rattle.spelling.specs.Writing.{Put}

-- the definitions' answer
abbrev pub answer_of : Result ℕ Refusal → Answer (Unit {0})
answer_of (Ok n) = accepted tt
answer_of (Err e) = refused e

-- the number of bytes, written or needed
abbrev pub size_of : Result ℕ Refusal → ℕ
size_of (Ok n) = n
size_of (Err e) = place e

-- a text, if so many bytes are enough
abbrev pub lent_text : Letters → ℕ → Answer Letters
lent_text text lent = lending (length text) lent >>= λ _. accepted text

-- a text was asked for, bytes being lent: the answer, its size, and the bytes afterwards
pub record Gives (text : Letters) (lent : List ℕ) (r : Result ℕ Refusal) (after : List ℕ) : Type 0 where
  pub answer : answer_of r ≡ lending (length text) (length lent)
  pub size : size_of r ≡ length text
  pub bytes : after ≡ bytes_after (lent_text text (length lent)) lent

-- what a call that puts a text does: the bytes before it, its answer, and the bytes after it
abbrev pub Putting : Type 1
Putting = MutBor (List ℕ) → ℕ → MutBor (List ℕ) → Type 0

-- whatever bytes are lent, it puts this text over their front
abbrev pub PutsFront : Putting → Letters → Type 0
PutsFront call text = (o : MutBor (List ℕ)) (n : ℕ) (o' : MutBor (List ℕ)) → call o n o' → Put text 0 o.now n o'.now
