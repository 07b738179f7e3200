-- A leaf without a clock. Assumes nothing.
use Prim.Native.Nat.{ℕ, ◌*◌, ◌<◌}
use Rattle.std.specs.Prelude as rust
use Rattle.std.specs.Prelude.{Some, None}
use mathlib.Core.Path.{◌≡◌, sym, ◌∙◌, ap}
use mathlib.Core.List.{List}
use mathlib.Core.Bool.{Bool, false, not}
use mathlib.Core.Option.{none}
use lib.ListN.{length, get_or}
use lib.Dec.{eqb}
use Rattle.definitions.specs.Bytes.{tokens}
use Rattle.definitions.specs.Tree.{Expr}
use Rattle.definitions.specs.Reading.{got}
use Rattle.definitions.specs.InferClocks.{Clocks, formed, natural}
use Rattle.clock_tables.specs.Environment.{env_at, Agrees}
use Rattle.clock_tables.proofs.EnvironmentLaws.{env-unassigned}
use Rattle.operands.specs.declared.Leaf.{Leaf}
use Rattle.operands.specs.Leaf.{leaf_at}
use Rattle.operands.specs.Role.{role_of_expr}
use Rattle.operands.specs.Spread.{tree}
use Rattle.operands.proofs.Leaves.{IsConstant, leaf-says}
use Rattle.inference.proofs.Low.{role-low}

module _ (M : ℕ) (gs vs : List ℕ) (same : length vs ≡ length gs) (p : ℕ) (e : Expr) (q : ℕ) (g : tree M (tokens gs vs) p ≡ got e q) (k : rust.Option Leaf) (i : k ≡ leaf_at (length gs) (get_or gs p 0) (get_or vs p 0) p) (env : List ℕ) (clocks : Clocks) (a : Agrees env M clocks) where
  -- a name that has none
  pub free-name : (l : Leaf) (x : ℕ) {b : Bool} → k ≡ Some l → l.name ≡ Some x → b ≡ not (eqb (get_or env (17 * x) 0) 0) → b ≡ false → (natural clocks e ≡ formed none) × (l.end ≡ q)
  unfolding natural role_of_expr
  free-name l x j n u z =
      let s : (e ≡ Expr.var x) × (q ≡ l.end) = rw n at (rw j at (leaf-says M gs vs same p e q g k i)) in
      let b : x < M = rw s.0 at (role-low M (tokens gs vs) p e q g) in
      let n : env_at env x ≡ none = env-unassigned env x u z in
      (ap (natural clocks) s.0 ∙ ap formed (sym (a.same x b) ∙ n), sym s.1)

  pub free-constant : (l : Leaf) → k ≡ Some l → l.name ≡ None → (natural clocks e ≡ formed none) × (l.end ≡ q)
  unfolding natural
  free-constant l j n =
      let s : IsConstant M gs vs same p e q g l.end = rw n at (rw j at (leaf-says M gs vs same p e q g k i)) in
      (ap (natural clocks) s.2, sym s.3)
