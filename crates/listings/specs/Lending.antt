-- A text lent by what puts it.
use Rattle.std.specs.Prelude.{ℕ, List, Result}
use Rattle.std.specs.Borrow.{MutBor}
use Rattle.definitions.specs.declared.Refusal.{Refusal}
use Rattle.definitions.specs.Lists.{Letters}
use Rattle.definitions.specs.Refusals.{Answer, ◌>>=◌}
use Rattle.lines.specs.Lending.{lent_text}
use Rattle.workspace.specs.declared.Working.{Working}
use Rattle.workspace.specs.Room.{SameRoom}
use Rattle.query.specs.Listed.{TextStands}

-- what a call that puts a text may do: the bytes and the working tables before it, its answer, and both after it
abbrev pub Putting : Type 1
Putting = MutBor (List ℕ) → MutBor Working → Result ℕ Refusal → MutBor (List ℕ) → MutBor Working → Type 0

-- the working tables keep their room
abbrev pub KeepsRoom : Putting → Type 0
KeepsRoom call = (o : MutBor (List ℕ)) (w : MutBor Working) (r : Result ℕ Refusal) (o' : MutBor (List ℕ)) (w' : MutBor Working) → call o w r o' w' → SameRoom w.now w'.now

-- with working tables like these, the text that is answered stands over whatever bytes are lent
abbrev pub Puts : Putting → Working → Answer Letters → Type 0
Puts call working v = (o : MutBor (List ℕ)) (w : MutBor Working) (r : Result ℕ Refusal) (o' : MutBor (List ℕ)) (w' : MutBor Working) → SameRoom working w.now → call o w r o' w' → TextStands v o.now o'.now r

-- the text that is answered, if so many bytes are enough
abbrev pub lent_answer : Answer Letters → ℕ → Answer Letters
lent_answer v lent = v >>= λ text. lent_text text lent
