-- Tokens that stand in a sheet as they are to be written.
use Rattle.std.specs.Prelude.{ℕ, ◌-◌, ◌≤◌, ◌<◌, ◌≡◌, List, map, length, take, drop}
use Rattle.definitions.specs.declared.Token.{Token}
use Rattle.definitions.specs.Tokens.{TagValue, code_of}
use Rattle.shapes.specs.Shape.{All, Word}

-- the tokens' values fit in four bytes
abbrev pub Words : List TagValue → Type 0
Words ts = All (λ k. Word k.value) ts

-- the tokens l are those from p up to q
pub record Copies (ts : List TagValue) (l : List Token) (p q : ℕ) : Type 0 where
  pub within : p < q → q ≤ length ts
  pub same : (p < q → Words ts) → take (q - p) (drop p ts) ≡ map code_of l
