-- Where the letters of each name stand.
use Rattle.std.specs.Prelude.{ℕ, ◌+◌, ◌-◌, List, [], ◌∷◌, ◌&&◌, leb, length, get_or, take, drop}
use Rattle.definitions.specs.Lists.{choose, Letters}
use Rattle.spelling.specs.declared.names.Spelling.{Spelling}

-- where each name starts, the first at k, and where the last one ends
unfoldable pub starts_from : ℕ → List ℕ → List ℕ
starts_from k [] = k ∷ []
starts_from k (n ∷ ns) = k ∷ starts_from (k + n) ns

-- the letters from place a to place b; none, where these are no places of letters in order
unfoldable pub between : List ℕ → ℕ → ℕ → Letters
between letters a b = choose (leb a b && leb b (length letters)) (take (b - a) (drop a letters)) []

-- the letters of name x, by the starts; none past the last name
unfoldable pub letters_at : List ℕ → List ℕ → ℕ → Letters
unfolding between
letters_at starts letters x = between letters (get_or starts x 0) (get_or starts (x + 1) 0)

-- the letters of name x of a sheet
abbrev pub letters_in : Spelling → ℕ → Letters
letters_in s = letters_at s.starts.now s.letters.now
