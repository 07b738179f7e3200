-- A text in which names are spelled.
use Rattle.std.specs.Prelude.{ℕ, ◌≡◌}
use Rattle.definitions.specs.Lists.{Letters}
use Rattle.spelling.specs.Places.{letters_in}
use Rattle.spelling.specs.Written.{Wrote}
use Rattle.lines.specs.declared.NamedText.{NamedText}

-- what f is of its names was put, and it still has these names and the lent text
pub record Spells (f : (ℕ → Letters) → Letters) (w w₁ : NamedText) : Type 0 where
  pub names : w₁.spelling ≡ w.spelling
  pub same : w₁.text.ghost_name ≡ w.text.ghost_name
  pub wrote : Wrote (f (letters_in w.spelling)) w.text.now w₁.text.now

-- something was put, and it still has these names and the lent text
pub record Stays (w w₁ : NamedText) : Type 0 where
  pub names : w₁.spelling ≡ w.spelling
  pub same : w₁.text.ghost_name ≡ w.text.ghost_name
  pub out : w₁.text.now.out.ghost_name ≡ w.text.now.out.ghost_name
