-- What the code answers of a reading: the place that follows it, with what else the code needs of it, or its refusal.
use Rattle.std.specs.Prelude.{ℕ, List, length, Result, Ok, Err}
use Rattle.definitions.specs.declared.Refusal.{Refusal}
use Rattle.definitions.specs.Reading.{Got, got, rejected}

-- the next place
abbrev pub outcome : {A : Type 0} → Got A → Result ℕ Refusal
outcome (got a q) = Ok q
outcome (rejected r) = Err r

-- what was read, and the next place
abbrev pub told : {A : Type 0} → Got A → Result (A × ℕ) Refusal
told (got a q) = Ok (a, q)
told (rejected r) = Err r

-- how many were read, and the next place
abbrev pub listed : {A : Type 0} → Got (List A) → Result (ℕ × ℕ) Refusal
listed (got l q) = Ok (length l, q)
listed (rejected r) = Err r
