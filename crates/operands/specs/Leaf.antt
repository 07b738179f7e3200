-- A leaf by its first token.
use Rattle.std.specs.Prelude.{ℕ, ◌+◌, eqb, Option, Some, None}
use Rattle.definitions.specs.Lists.{choose}
use Rattle.operands.specs.declared.Leaf.{Leaf}
use Rattle.layout.specs.Spans.{past_in}

-- a name and a constant that end there
abbrev pub name_leaf : ℕ → ℕ → Leaf
name_leaf x s = record { name = Some x; end = s }

abbrev pub constant_leaf : ℕ → Leaf
constant_leaf s = record { name = None; end = s }

-- by the tag and the value at p, of so many places: "50 bool(0/1), 51 int(low), 52 float(low), 53 char(0 to 255), 54 var(id)";
-- "51 and 52 are followed by high"
abbrev pub leaf_at : ℕ → ℕ → ℕ → ℕ → Option Leaf
leaf_at most tag v p =
    choose (eqb tag 54) (Some (name_leaf v (p + 1))) (
    choose (eqb tag 50) (Some (constant_leaf (p + 1))) (
    choose (eqb tag 51) (Some (constant_leaf (past_in most (p + 1)))) (
    choose (eqb tag 52) (Some (constant_leaf (past_in most (p + 1)))) (
    choose (eqb tag 53) (Some (constant_leaf (p + 1))) None))))
