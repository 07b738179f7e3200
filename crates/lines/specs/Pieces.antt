-- The pieces of the definitions' texts and listings.
use Rattle.std.specs.Prelude.{ℕ, ◌++◌, map}
use Rattle.definitions.specs.Lists.{Letters, bytes, decimal}
use Rattle.definitions.specs.Clock.{Clock, conditions}
use Rattle.definitions.specs.Texts.{separated, quoted, condition_text, clock_text, clock_key}

module _ (letters : ℕ → Letters) where
  -- the conditions of a clock, with blanks between
  unfoldable pub words : Clock → Letters
  unfolding bytes conditions separated
  words c = separated (bytes " ") (map (condition_text letters) (conditions c))

  -- a name on a clock, where another is expected
  unfoldable pub on_another : ℕ → Clock → Letters → Clock → Letters
  unfolding bytes clock_text
  on_another x c between d = quoted letters x ++ (bytes " is on " ++ (clock_text letters c ++ (between ++ clock_text letters d)))

  -- the first line of a listing: a name, and how many equations, passes and chains
  unfoldable pub head_line : ℕ → ℕ → ℕ → ℕ → Letters
  unfolding bytes decimal
  head_line name equations passes chains =
      letters name ++ (bytes " " ++ (decimal equations ++ (bytes " " ++ (decimal passes ++ (bytes " " ++ (decimal chains ++ bytes "\n"))))))

  -- the line of equation i
  unfoldable pub equation_line : ℕ → Clock → Letters
  unfolding bytes decimal clock_key
  equation_line i c = decimal i ++ (bytes " " ++ (clock_key letters c ++ bytes "\n"))

  -- the line of a chain
  unfoldable pub chain_line : Clock → Letters
  unfolding bytes clock_key
  chain_line c = bytes "chain " ++ (clock_key letters c ++ bytes "\n")
