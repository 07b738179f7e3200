-- `layout::past` meets its contract: what is owed from here ends where all of it does.
use Rattle.std.proofs.Common.{ℕ}
use Rattle.layout.specs.Owed.{Owed}
use Rattle.layout.proofs.past.Given as goal

abbrev pub invariant-loop-place : goal.invariant-loop-place
invariant-loop-place l = (q : ℕ) → Owed l.source.tags.now l.source.values.now l.at l.many q → Owed l.source.tags.now l.source.values.now l.place l.owed q
