-- A node's new names of one stem are different letters. Assumes nothing.
use Prim.Native.Nat.{ℕ, zero, suc, ◌+◌, ◌^◌, ◌≤◌, ◌<◌}
use mathlib.Core.Path.{◌≡◌, sym, ap, ◌∙◌}
use mathlib.Core.List.{List}
use native.Mathlib.Omega.{arith}
use lib.ListN.{length, length-map}
use Rattle.definitions.specs.Lists.{Letters}
use Rattle.definitions.specs.Tree.{Declared, Node}
use Rattle.definitions.specs.Declock.{Stem, declared}
use Rattle.definitions.specs.Output.{letters_of, new_letters}
use Rattle.spelling.proofs.Stems.{new-same}
use Rattle.spelling.specs.Free.{next_free, free_below, new_number, taken_of}
use Rattle.spelling.proofs.Free.{next-most, below_none, below_next, below-many, number-next, number-after, new-letters}

module _ (taken : List Letters) (stem : Stem) (few : length taken ≤ 128) where
  -- below some number j are free
  reached : (j : ℕ) → j ≤ 4096 → (k : ℕ) × (free_below taken stem k ≡ j) × (k ≤ j + length taken)
  reached zero h = (0, below_none taken stem, omega arith)
  reached (suc j) h =
      let r = reached j (omega arith) in
      let a : r.0 + length taken < 2 ^ 64 = omega (arith, r.2) in
      let b : free_below taken stem (next_free taken stem r.0 + 1) ≡ suc j = number-after taken stem r.0 a ∙ omega (arith, r.1) in
      let c : next_free taken stem r.0 + 1 ≤ 2 ^ 64 = omega (arith, next-most taken stem r.0, r.2) in
      (next_free taken stem r.0 + 1, b, omega (arith, below-many taken stem (next_free taken stem r.0 + 1) c, b))

  -- below the j-th free number j are free, and it is small
  number-place : (j : ℕ) → j ≤ 4096 → (free_below taken stem (new_number taken stem j) ≡ j) × (new_number taken stem j < 2 ^ 64)
  number-place j h =
      let r = reached j h in
      let a : r.0 + length taken < 2 ^ 64 = omega (arith, r.2) in
      let n : new_number taken stem j ≡ next_free taken stem r.0 = ap (new_number taken stem) (sym r.1) ∙ number-next taken stem r.0 a in
      (ap (free_below taken stem) n ∙ (below_next taken stem r.0 ∙ r.1), omega (arith, n, next-most taken stem r.0))

-- new names of a stem that are the same letters have the same number
pub new-once : (names : List Letters) (node : Node) → length (declared node) ≤ 128 → (stem : Stem) (i j : ℕ) → i ≤ 4096 → j ≤ 4096 → new_letters names node stem i ≡ new_letters names node stem j → i ≡ j
new-once names node few stem i j a b e =
    let t = taken_of names node in
    let s : length t ≤ 128 = omega (arith, length-map (declared node) (λ (d : Declared). letters_of names d.name)) in
    let x = number-place t stem s i a in
    let y = number-place t stem s j b in
    let q : new_number t stem i ≡ new_number t stem j = new-same stem (new_number t stem i) (new_number t stem j) x.1 y.1 (sym (new-letters names node stem i) ∙ (e ∙ new-letters names node stem j)) in
    sym x.0 ∙ (ap (free_below t stem) q ∙ y.0)
