-- Laws of clocks, and of clocks as structs.
-- Assumes nothing.
use mathlib.Core.Path.{◌≡◌, refl, sym, ◌∙◌, ap}
use mathlib.Core.List.{List, [], ◌∷◌, ◌++◌}
use mathlib.Core.Bool.{Bool, true, false, true≢false, ◌&&◌}
use mathlib.Core.Option.{none, some}
use Prim.Native.Nat.{ℕ, zero, suc, ◌+◌, ◌-◌, ◌≤◌, ◌<◌}
use native.Mathlib.Omega.{arith}
use native.Mathlib.Numerals.{add-one, sub-one}
use lib.ListN.{length, set, take}
use lib.Pointwise.{pointwise}
use lib.Seq.{get_or-set_same, get_or-set_other, take-suc, take-length}
use lib.Dec.{eqb}
use Rattle.std.specs.Prelude.{Option, Some, None, MatchOption}
use Rattle.std.specs.Borrow.{Bor}
use Rattle.std.specs.Option.{option_copied}
use Rattle.std.specs.List.{slice_get}
use Rattle.std.proofs.lemmas.List.{get_or-take, length-take-le}
use Rattle.std.proofs.lemmas.Option.{none-some, slice_get-get_or, slice_get_within, get_or_from_slice_get}
use borrow.Author.Tests.{ne_eqb, eqb-true, eq-eqb, lt-ltb}
use Rattle.definitions.specs.declared.Test.{Test}
use Rattle.definitions.specs.declared.Condition.{Condition}
use Rattle.definitions.specs.contracts.ConditionPartialEq.TheImpl as derived
use Rattle.definitions.specs.Clock.{Clock, base, ◌↓◌, depth, parent, same_condition, same_clock, is_base, ends_in}
use Rattle.definitions.specs.InferClocks.{formed, condition_over, parent_of}
use Rattle.std.proofs.Math.Bool.{and-false}
use Rattle.clock_tables.specs.declared.clock.Clock as struct
use Rattle.clock_tables.specs.Value.{at, clock_at, capped, value_of}

-- ---- the first conditions of a list
pub depth-at : (ks : List Condition) (d : ℕ) → depth (clock_at ks d) ≡ d
unfolding clock_at
depth-at ks zero = refl
depth-at ks (suc d) = ap suc (depth-at ks d)

-- a struct's clock has at most eight conditions
pub value-depth : (c : struct.Clock) → depth (value_of c) ≤ 8
value-depth c = omega (arith, depth-at c.conditions (capped c.depth))

pub base-at : (ks : List Condition) (d : ℕ) → d ≡ 0 → clock_at ks d ≡ base
unfolding clock_at
base-at ks d z = rw z

pub base_depth : (ks : List Condition) (n : ℕ) → eqb n 0 ≡ is_base (clock_at ks (capped n))
unfolding clock_at
base_depth ks zero = refl
base_depth ks (suc n) = let e : capped (suc n) ≡ suc (capped (suc n) - 1) = omega arith in rw (ne_eqb (suc n) 0 (omega arith), e)

-- conditions that are left out are no part of the first d
clock-take : (ks : List Condition) (n d : ℕ) → d ≤ n → clock_at (take n ks) d ≡ clock_at ks d
unfolding clock_at
clock-take ks n zero h = refl
clock-take ks n (suc d) h = rw (get_or-take n ks d (record { name = 0; test = Test.On }) (omega arith), clock-take ks n d (omega arith))

-- the conditions in use are the clock's
pub clock-listed : (ks : List Condition) (d : ℕ) → d ≤ length ks → clock_at (take d ks) (length (take d ks)) ≡ clock_at ks d
clock-listed ks d h = rw (length-take-le d ks h) (clock-take ks d d (omega arith))

-- the last condition, over the others
pub last-at : (ks : List Condition) (d : ℕ) → (d ≡ 0 → ⊥) → clock_at ks d ≡ clock_at ks (d - 1) ↓ at ks (d - 1)
unfolding clock_at
last-at ks zero z = absurd (z refl)
last-at ks (suc d) z = rw (sub-one (suc d))

-- a clock without a last condition is base
pub none-last : (ks : List Condition) → None ≡ slice_get ks (length ks - 1) → clock_at ks (length ks) ≡ base
unfolding clock_at
none-last [] n = refl
none-last (k ∷ ks) n = absurd (none-some _ (n ∙ slice_get-get_or (k ∷ ks) (length (k ∷ ks) - 1) k (omega arith)))

-- a clock is its last condition over the others
pub last-over : (ks : List Condition) (k : Condition) (c : Clock) → Some k ≡ slice_get ks (length ks - 1) → clock_at ks (length ks) ≡ c → c ≡ clock_at ks (length ks - 1) ↓ k
last-over ks k c e q =
    let within : length ks - 1 < length ks = slice_get_within ks (length ks - 1) k (sym e) in
    sym q ∙ (last-at ks (length ks) (λ z. omega (arith, within)) ∙ ap (λ (l : Condition). clock_at ks (length ks - 1) ↓ l) (get_or_from_slice_get ks (length ks - 1) k _ (sym e)))

-- one less is the parent
pub parent_at : (ks : List Condition) (n : ℕ) → clock_at ks (capped (capped n - 1)) ≡ parent (clock_at ks (capped n))
unfolding clock_at
parent_at ks n = go (capped n) (omega arith)
  where
    go : (d : ℕ) → d ≤ 8 → clock_at ks (capped (d - 1)) ≡ parent (clock_at ks d)
    go zero h = refl
    go (suc d) h = let e : capped (suc d - 1) ≡ d = omega arith in rw e

-- a condition set at or past d is no part of the first d
pub clock-set : (ks : List Condition) (d i : ℕ) (k : Condition) → d ≤ i → clock_at (set ks i k) d ≡ clock_at ks d
unfolding clock_at
clock-set ks zero i k h = refl
clock-set ks (suc d) i k h =
    let n : d ≡ i → ⊥ = omega arith in
    let l : d ≤ i = omega arith in
    rw (get_or-set_other ks i d k (record { name = 0; test = Test.On }) n, clock-set ks d i k l)

-- a condition set at d is the last of the first d + 1
pub clock-push : (ks : List Condition) (d : ℕ) (k : Condition) → d < length ks → clock_at (set ks d k) (d + 1) ≡ clock_at ks d ↓ k
unfolding clock_at
clock-push ks d k h =
    let l : d ≤ d = omega arith in
    rw (add-one d, get_or-set_same ks d k (record { name = 0; test = Test.On }) h, clock-set ks d d k l)

-- a struct with one condition more
pub value-push : (ks : List Condition) (d : ℕ) (k : Condition) → length ks ≡ 8 → d < 8
    → formed (some (clock_at (set ks d k) (capped (d + 1)))) ≡ condition_over k (formed (some (clock_at ks (capped d))))
value-push ks d k n l =
    let e : capped d ≡ d = omega arith in
    let f : capped (d + 1) ≡ d + 1 = omega arith in
    let h : d < length ks = omega arith in
    rw (e, f, depth-at ks d, lt-ltb d 8 l, clock-push ks d k h)

-- ---- the same clock
pub other-depth : (c d : Clock) → (depth c ≡ depth d → ⊥) → same_clock c d ≡ false
other-depth base base h = absurd (h refl)
other-depth base (d ↓ l) h = refl
other-depth (c ↓ k) base h = refl
other-depth (c ↓ k) (d ↓ l) h = rw (other-depth c d (λ e. h (ap suc e))) (and-false (same_condition k l))

-- ---- comparing the conditions
-- what `==` of two conditions answers
pub condition-eq : (k l : Condition) → derived.eq-value.it k l ≡ same_condition k l
condition-eq k l = tests k.test l.test
  where
    tests : (s t : Test) → derived.eq-value.it (record { name = k.name; test = s }) (record { name = l.name; test = t }) ≡ same_condition (record { name = k.name; test = s }) (record { name = l.name; test = t })
    tests Test.On Test.On = refl
    tests Test.On Test.Not = refl
    tests Test.Not Test.On = refl
    tests Test.Not Test.Not = refl

-- what the last condition tells: base has none
pub ends-told : (ks : List Condition) (k : Condition) (c : Clock) (o : Option (Bor Condition)) (r : Bool) (Q : Bor Condition → Type 0)
    → ((b : Bor Condition) → Q b → r ≡ derived.eq-value.it k b.now) → option_copied o ≡ slice_get ks (length ks - 1) → clock_at ks (length ks) ≡ c → MatchOption o (r ≡ false) Q → r ≡ ends_in k c
ends-told ks k c None r Q f v e m = m ∙ ap (ends_in k) (sym (none-last ks v) ∙ e)
ends-told ks k c (Some b) r Q f v e m = f b m ∙ condition-eq k b.now ∙ ap (ends_in k) (sym (last-over ks b.now c v e))

pointwise-last : (E : Condition → Condition → Bool) (ks ls : List Condition) (k l : Condition) → length ks ≡ length ls → pointwise E (ks ++ (k ∷ [])) (ls ++ (l ∷ [])) ≡ (E k l && pointwise E ks ls)
pointwise-last E [] [] k l h = refl
pointwise-last E [] (b ∷ ls) k l h = absurd (omega arith)
pointwise-last E (a ∷ ks) [] k l h = absurd (omega arith)
pointwise-last E (a ∷ ks) (b ∷ ls) k l h = rw (pointwise-last E ks ls k l (omega arith)) (swap (E a b) (E k l) (pointwise E ks ls))
  where
    swap : (x y z : Bool) → (x && (y && z)) ≡ (y && (x && z))
    swap true true z = refl
    swap true false z = refl
    swap false true z = refl
    swap false false z = refl

-- what `==` of the first d of each answers
pub same_taken : (ks ls : List Condition) (d : ℕ) → d ≤ length ks → d ≤ length ls → pointwise derived.eq-value.it (take d ks) (take d ls) ≡ same_clock (clock_at ks d) (clock_at ls d)
unfolding clock_at
same_taken ks ls zero h j = refl
same_taken ks ls (suc d) h j =
    let n : length (take d ks) ≡ length (take d ls) = omega (arith, length-take-le d ks (omega arith), length-take-le d ls (omega arith)) in
    rw (take-suc ks d (record { name = 0; test = Test.On }) (omega arith), take-suc ls d (record { name = 0; test = Test.On }) (omega arith), pointwise-last derived.eq-value.it (take d ks) (take d ls) (at ks d) (at ls d) n, condition-eq (at ks d) (at ls d), same_taken ks ls d (omega arith) (omega arith))

pointwise-other : (E : Condition → Condition → Bool) (ks ls : List Condition) → (length ks ≡ length ls → ⊥) → pointwise E ks ls ≡ false
pointwise-other E [] [] h = absurd (h refl)
pointwise-other E [] (b ∷ ls) h = refl
pointwise-other E (a ∷ ks) [] h = refl
pointwise-other E (a ∷ ks) (b ∷ ls) h = rw (pointwise-other E ks ls (λ e. h (ap suc e))) (and-false (E a b))

-- what `==` of all of each answers
pub same_listed : (ks ls : List Condition) → pointwise derived.eq-value.it ks ls ≡ same_clock (clock_at ks (length ks)) (clock_at ls (length ls))
same_listed ks ls = go (eqb (length ks) (length ls)) refl
  where
    go : (b : Bool) → eqb (length ks) (length ls) ≡ b → pointwise derived.eq-value.it ks ls ≡ same_clock (clock_at ks (length ks)) (clock_at ls (length ls))
    go true e =
        let n : length ks ≡ length ls = eqb-true _ _ e in
        let r = same_taken ks ls (length ks) (omega arith) (omega arith) in
        (rw (take-length ks, ap (λ m. take m ls) n ∙ take-length ls) at r) ∙ ap (λ m. same_clock (clock_at ks (length ks)) (clock_at ls m)) n
    go false e =
        let n : length ks ≡ length ls → ⊥ = λ q. true≢false (sym (eq-eqb _ _ q) ∙ e) in
        pointwise-other derived.eq-value.it ks ls n ∙ sym (other-depth _ _ (λ q. n (sym (depth-at ks (length ks)) ∙ q ∙ depth-at ls (length ls))))

-- ---- parents
pub parent-none : (c : Clock) → is_base c ≡ true → parent_of (formed (some c)) ≡ formed none
parent-none base h = refl
parent-none (c ↓ k) h = absurd cc
