-- What a generic reader asks of the part that it is passed, and what it then answers.
use Rattle.std.specs.Prelude.{ℕ, zero, suc, ◌≡◌, ◌<◌, Result, Ok, Err}
use Rattle.std.proofs.Math.Option.{Option}
use Rattle.std.specs.declared.option.Option as code
use Rattle.definitions.specs.declared.Refusal.{Refusal}
use Rattle.definitions.specs.Tokens.{words}
use Rattle.grammar.specs.Found.{option_of}

-- of a tag and a value it finds what f says
abbrev pub Finds : {T : Type 0} → (ℕ → ℕ → code.Option T → Type 0) → (ℕ → ℕ → Option T) → Type 0
Finds {T} Post f = (tag v : ℕ) (o : code.Option T) → v < words → Post tag v o → option_of o ≡ f tag v

-- at a place it answers what r says
abbrev pub Reads : (ℕ → Result ℕ Refusal → Type 0) → (ℕ → Result ℕ Refusal) → Type 0
Reads Post r = (p : ℕ) (s : Result ℕ Refusal) → Post p s → s ≡ r p

-- a reading, and then another from where it ended
abbrev pub onward : Result ℕ Refusal → (ℕ → Result ℕ Refusal) → Result ℕ Refusal
onward (Ok q) r = r q
onward (Err t) r = Err t

-- so many readings, one after the other
unfoldable pub repeated : ℕ → (ℕ → Result ℕ Refusal) → ℕ → Result ℕ Refusal
repeated zero r p = Ok p
repeated (suc n) r p = onward (r p) (repeated n r)
