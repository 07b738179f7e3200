-- Comparing clocks is an equivalence: the laws of `==`.
use mathlib.Core.Path.{◌≡◌, refl, sym}
use mathlib.Core.Bool.{true, true≢false, ◌&&◌}
use Rattle.std.specs.Cmp.{IsEquivalence}
use Rattle.std.proofs.lemmas.Cmp.{on_equiv, and_equiv, nat_eq_equiv}
use Rattle.std.proofs.lemmas.Bool.{and_parts}
use Rattle.definitions.specs.declared.Test.{Test}
use Rattle.definitions.specs.declared.Condition.{Condition}
use Rattle.definitions.specs.Clock.{Clock, base, ◌↓◌, same_test, same_condition, same_clock}
use Rattle.shapes.proofs.Facts.{test-self, clock-self}
use Rattle.clock_tables.specs.declared.clock.Clock as struct
use Rattle.clock_tables.specs.Value.{value_of}

test-symm : (s t : Test) → same_test s t ≡ same_test t s
test-symm Test.On Test.On = refl
test-symm Test.On Test.Not = refl
test-symm Test.Not Test.On = refl
test-symm Test.Not Test.Not = refl

test-congr : (s t u : Test) → same_test s t ≡ true → same_test s u ≡ same_test t u
test-congr Test.On Test.On u h = refl
test-congr Test.On Test.Not u h = absurd (true≢false (sym h))
test-congr Test.Not Test.On u h = absurd (true≢false (sym h))
test-congr Test.Not Test.Not u h = refl

tests : IsEquivalence same_test
tests = record { refl = test-self; symm = test-symm; congr = test-congr }

pub conditions : IsEquivalence same_condition
conditions = and_equiv (on_equiv (λ (k : Condition). k.name) nat_eq_equiv) (on_equiv (λ (k : Condition). k.test) tests)

clock-symm : (c d : Clock) → same_clock c d ≡ same_clock d c
clock-symm base base = refl
clock-symm base (d ↓ l) = refl
clock-symm (c ↓ k) base = refl
clock-symm (c ↓ k) (d ↓ l) = λ i. conditions.symm k l i && clock-symm c d i

clock-congr : (c d e : Clock) → same_clock c d ≡ true → same_clock c e ≡ same_clock d e
clock-congr base base e h = refl
clock-congr base (d ↓ l) e h = absurd (true≢false (sym h))
clock-congr (c ↓ k) base e h = absurd (true≢false (sym h))
clock-congr (c ↓ k) (d ↓ l) base h = refl
clock-congr (c ↓ k) (d ↓ l) (e ↓ m) h = λ i. conditions.congr k l m (and_parts (same_condition k l) (same_clock c d) h).0 i && clock-congr c d e (and_parts (same_condition k l) (same_clock c d) h).1 i

pub clocks : IsEquivalence same_clock
clocks = record { refl = clock-self; symm = clock-symm; congr = clock-congr }

pub values : IsEquivalence (λ (a b : struct.Clock). same_clock (value_of a) (value_of b))
values = on_equiv value_of clocks
