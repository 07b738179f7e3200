-- A text, and the listings of nodes, put in lent bytes.
use Rattle.std.specs.Prelude.{ℕ, ◌≡◌, List, Result, Ok, Err}
use Rattle.definitions.specs.declared.Refusal.{Refusal}
use Rattle.definitions.specs.Lists.{join, numbered, Letters}
use Rattle.definitions.specs.Tree.{Node}
use Rattle.definitions.specs.Refusals.{Answer, accepted, refused, ◌>>=◌}
use Rattle.definitions.specs.Answer.{clockings, node_listing}
use Rattle.query.specs.Words.{PutText}

-- the text that is answered stands over the front of the lent bytes, as far as they reach, and is so long; or it is refused so
unfoldable pub TextStands : Answer Letters → List ℕ → List ℕ → Result ℕ Refusal → Type 0
TextStands v lent now (Err r) = v ≡ refused r
TextStands v lent now (Ok m) = (text : Letters) × (v ≡ accepted text) × PutText text 0 lent m now

-- the listings of these nodes, one behind another, or 9
abbrev pub listings_text : (ℕ → Letters) → List Node → Answer Letters
listings_text letters ns = clockings 0 ns >>= λ l. accepted (join (numbered (node_listing letters) 0 l))
