-- Where the letters of each name stand, by the lengths.
use Rattle.std.specs.Prelude.{ℕ, zero, suc, ◌+◌, List, [], ◌∷◌, get_or, take, drop}
use Rattle.definitions.specs.Lists.{Letters}

-- where the letters of name i start
unfoldable pub start : List ℕ → ℕ → ℕ
start lens zero = 0
start lens (suc i) = start lens i + get_or lens i 0

-- the letters of name i
unfoldable pub name_at : List ℕ → List ℕ → ℕ → Letters
unfolding start
name_at lens letters i = take (get_or lens i 0) (drop (start lens i) letters)

-- the names before name i, the last one first
unfoldable pub before : List ℕ → List ℕ → ℕ → List Letters
unfolding name_at
before lens letters zero = []
before lens letters (suc i) = name_at lens letters i ∷ before lens letters i
