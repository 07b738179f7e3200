-- Laws of the clocks of names in a table.
-- Assumes nothing.
use mathlib.Core.Path.{◌≡◌, refl, sym, ◌∙◌, ap}
use mathlib.Core.List.{List, ◌∷◌, ◌++◌}
use mathlib.Core.Bool.{Bool, true, false, not, true≢false}
use mathlib.Core.Option.{none, some}
use mathlib.Core.Logic.{inl, inr}
use Prim.Native.Nat.{ℕ, ◌+◌, ◌*◌, ◌≤◌, ◌<◌}
use native.Mathlib.Omega.{arith}
use lib.ListN.{length, get_or, drop, replicate}
use lib.Dec.{eqb, ltb}
use borrow.Author.Tests.{ne_eqb, eq-eqb, eqb-true, eqb-false, ltb-true, ltb-false}
use Rattle.std.specs.Prelude.{Option, Some, None, is_some, IfSome}
use Rattle.definitions.specs.Lists.{choose}
use Rattle.definitions.specs.Clock.{Clock}
use Rattle.definitions.specs.InferClocks.{Clocks, clock_of}
use Rattle.clock_tables.specs.declared.clock.Clock as struct
use Rattle.clock_tables.specs.Value.{value_of, option_of}
use Rattle.clock_tables.specs.Flat.{clock_in}
use Rattle.clock_tables.proofs.FlatLaws.{Within, clock-same}
use Rattle.clock_tables.proofs.FrontLaws.{front-filled}
use Rattle.clock_tables.specs.Environment.{env_at, Agrees, Assigned, Cleared}

-- ---- one name
pub env-none : (t : List ℕ) (x : ℕ) → get_or t (17 * x) 0 ≡ 0 → env_at t x ≡ none
unfolding env_at
env-none t x z = rw z

pub env-some : (t : List ℕ) (x : ℕ) → (get_or t (17 * x) 0 ≡ 0 → ⊥) → env_at t x ≡ some (clock_in t (17 * x))
unfolding env_at
env-some t x z = rw (ne_eqb _ _ z)

-- what the test of a name's first word tells
pub env-unassigned : (t : List ℕ) (x : ℕ) {b : Bool} → b ≡ not (eqb (get_or t (17 * x) 0) 0) → b ≡ false → env_at t x ≡ none
env-unassigned t x e f = env-none t x (go (eqb (get_or t (17 * x) 0) 0) refl (sym e ∙ f))
  where
    go : (a : Bool) → eqb (get_or t (17 * x) 0) 0 ≡ a → not a ≡ false → get_or t (17 * x) 0 ≡ 0
    go true q h = eqb-true _ _ q
    go false q h = absurd (true≢false h)

pub env-assigned : (t : List ℕ) (x : ℕ) {b : Bool} → b ≡ not (eqb (get_or t (17 * x) 0) 0) → b ≡ true → env_at t x ≡ some (clock_in t (17 * x))
env-assigned t x e f = env-some t x (λ z. true≢false (sym f ∙ e ∙ ap not (eq-eqb _ _ z)))

-- a name's clock is its seventeen words
env-same : (t t' : List ℕ) (x : ℕ) → ((i : ℕ) → 17 * x ≤ i → i < 17 * x + 17 → get_or t' i 0 ≡ get_or t i 0) → env_at t' x ≡ env_at t x
unfolding env_at
env-same t t' x h =
    let a : get_or t' (17 * x) 0 ≡ get_or t (17 * x) 0 = h (17 * x) (omega arith) (omega arith) in
    ap (λ (n : ℕ). choose (eqb n 0) none (some (clock_in t' (17 * x)))) a ∙ ap (λ (c : Clock). choose (eqb (get_or t (17 * x) 0) 0) none (some c)) (clock-same t t' (17 * x) h)

-- ---- assigning
pub assign-in : (t t' : List ℕ) (x : ℕ) (c : Clock) → length t' ≡ length t → (17 * x + 17 ≤ length t → 0 < get_or t' (17 * x) 0) → (17 * x + 17 ≤ length t → clock_in t' (17 * x) ≡ c) → Within t t' (17 * x) 17
    → Assigned t t' x c
assign-in t t' x c n z e w =
    record { same_length = n; here = λ l. env-some t' x (omega (arith, z l)) ∙ ap some (e l); elsewhere = λ y m. env-same t t' y (other y m) }
  where
    other : (y : ℕ) → (y ≡ x → ⊥) → (i : ℕ) → 17 * y ≤ i → i < 17 * y + 17 → get_or t' i 0 ≡ get_or t i 0
    other y m i a b = go (ltb y x) refl
      where
        go : (u : Bool) → ltb y x ≡ u → get_or t' i 0 ≡ get_or t i 0
        go true q = w i (inl (omega (arith, ltb-true y x q)))
        go false q = w i (inr (omega (arith, ltb-false y x q)))

-- ---- clearing
-- the words of the names below m are 0
pub cleared-in : (t t' : List ℕ) (m : ℕ) → length t' ≡ length t → (17 * m ≤ length t → t' ≡ replicate (17 * m) 0 ++ drop (17 * m) t) → Cleared t t' m
cleared-in t t' m n z =
    record { same_length = n; nowhere = λ room x u. env-none t' x (front-filled t t' (17 * m) (17 * x) 0 0 (z room) (omega arith)) }

-- ---- agreeing with the definitions' list of clocks
pub agrees-assign : (t t' : List ℕ) (m x : ℕ) (c : Clock) (clocks : Clocks) → x < m → Assigned t t' x c → Agrees t m clocks → Agrees t' m (record { name = x; clock = c } ∷ clocks)
unfolding clock_of
agrees-assign t t' m x c clocks l a g = record { room = omega (arith, a.same_length, g.room); same = λ y u. go y u (eqb x y) refl }
  where
    go : (y : ℕ) → y < m → (b : Bool) → eqb x y ≡ b → env_at t' y ≡ choose (eqb x y) (some c) (clock_of clocks y)
    go y u true q = let e : x ≡ y = eqb-true x y q in rw q (rw e at (a.here (omega (arith, g.room))))
    go y u false q =
        let n : y ≡ x → ⊥ = λ e. eqb-false x y q (sym e) in
        rw q (a.elsewhere y n ∙ g.same y u)

-- a name's clock, by the test of its first word
pub env-told : (t : List ℕ) (x : ℕ) {b : Bool} (o : Option struct.Clock) (Q : struct.Clock → Type 0) → ((c : struct.Clock) → Q c → value_of c ≡ clock_in t (17 * x)) → b ≡ not (eqb (get_or t (17 * x) 0) 0) → is_some o ≡ b → IfSome o Q → option_of o ≡ env_at t x
env-told t x None Q f e v m = sym (env-unassigned t x e (sym v))
env-told t x (Some c) Q f e v m = ap some (f c m) ∙ sym (env-assigned t x e (sym v))
