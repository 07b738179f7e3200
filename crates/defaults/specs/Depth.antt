-- How far down a type's default goes.
use Rattle.std.specs.Prelude.{ℕ, ◌+◌, ◌*◌, ◌≤◌}

-- so many steps are enough: each of `fuel` definitions more takes a field or a target and then at most 8 elements, what is at hand `rest`
abbrev pub Enough : ℕ → ℕ → ℕ → Type 0
Enough depth fuel rest = 9 * fuel + rest ≤ depth
