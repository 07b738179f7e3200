-- What a table of names holds.
use Rattle.std.specs.Prelude.{ℕ, ◌≡◌, List, Bool, true, false, ◌&&◌, leb, length, take}
use Rattle.definitions.specs.Lists.{join, Letters}
use Rattle.definitions.specs.Bytes.{cut}
use Rattle.spelling.specs.declared.name_table.NameTable.{NameTable}

-- are there so many places for names, and so many for letters, that these have theirs?
abbrev pub within : ℕ → ℕ → List Letters → Bool
within many long names = leb (length names) many && leb (length (join names)) long

module _ {many long : ℕ} where
  -- the names in use
  unfoldable pub names_of : NameTable many long → List Letters
  unfolding cut
  names_of t = cut (take t.names t.lengths) (take t.used t.letters)

  -- the table holds these names; or it is full, and there are no places for these names
  pub record NamesHeld (t : NameTable many long) (names : List Letters) : Type 0 where
    pub kept : t.full ≡ false → names ≡ names_of t
    pub past : t.full ≡ true → within many long names ≡ false
