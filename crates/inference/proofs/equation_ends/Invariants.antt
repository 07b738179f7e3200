-- `inference::equation_ends` meets its contract: the table so far says where the first equations end.
-- Assumes nothing.
use mathlib.Core.Path.{◌≡◌}
use mathlib.Core.List.{List}
use Prim.Native.Nat.{ℕ, suc, ◌<◌, min}
use lib.ListN.{length, get_or}
use Rattle.grammar.specs.Read.{tokens_of}
use Rattle.definitions.specs.Tree.{Equation}
use Rattle.definitions.specs.Reading.{got, times}
use Rattle.definitions.specs.Grammar.{equation}
use Rattle.inference.specs.Settled.{place_of}
use Rattle.inference.proofs.equation_ends.Given as goal

abbrev pub invariant-loop-end : goal.invariant-loop-end
invariant-loop-end s =
    (s.end-index-end ≡ min 64 s.fn.equations.count) × (length s.end-items ≡ s.end-index-end) × ((l : List Equation) (q : ℕ) → times s.fn.equations.count (equation s.source.names) (tokens_of s.source) s.fn.equations.at ≡ got l q → (s.place ≡ place_of s.source.names (tokens_of s.source) s.fn.equations.at s.end-index) × ((k : ℕ) → k < s.end-index → get_or s.end-items k 0 ≡ place_of s.source.names (tokens_of s.source) s.fn.equations.at (suc k)))
