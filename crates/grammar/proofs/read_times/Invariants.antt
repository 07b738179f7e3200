-- What is left to read has the outcome of all.
use Rattle.std.specs.Prelude.{ℕ, ◌≡◌, ◌-◌, Result}
use Rattle.definitions.specs.declared.Refusal.{Refusal}
use Rattle.grammar.specs.Repeated.{Reads, repeated}
use Rattle.grammar.proofs.read_times.Given as goal

abbrev pub invariant-loop : goal.invariant-loop
invariant-loop g l = (r : ℕ → Result ℕ Refusal) → Reads (goal.F-post g l.read) r → repeated l.count r l.at ≡ repeated (l.count - l.counter) r l.place
