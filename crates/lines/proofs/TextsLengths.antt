-- How long texts are at most, names being no longer than m.
use Prim.Native.Nat.{ℕ, ◌+◌, ◌*◌, ◌-◌, ◌≤◌}
use mathlib.Core.Path.{ap}
use mathlib.Core.List.{List, [], ◌∷◌, ◌++◌}
use mathlib.Core.Bool.{Bool, true, false, ◌&&◌}
use native.Mathlib.Nat.{suc-mul, mul-le-mul_right}
use native.Mathlib.Omega.{arith}
use lib.Dec.{leb, lit≤}
use lib.ListN.{length, get_or, take, drop, length-append, length-take, length-drop}
use Rattle.definitions.specs.declared.Test.{Test}
use Rattle.definitions.specs.declared.Condition.{Condition}
use Rattle.definitions.specs.Lists.{choose, join, Letters, bytes}
use Rattle.definitions.specs.Clock.{Clock, base, ◌↓◌, conditions, depth}
use Rattle.definitions.specs.InferClocks.{Fault, left_elsewhere, used_elsewhere, when_elsewhere, clock_name_elsewhere, undeclared, no_default, no_output_default, not_single_call, pre_untyped, fault_number, NodeFault}
use Rattle.definitions.specs.Texts.{when_text, test_sign, separated, condition_text, clock_text, fault_text, clock_key, fault_line}
use Rattle.clock_tables.proofs.ClockLaws.{value-depth}
use Rattle.findings.specs.declared.ClockFault.{ClockFault}
use Rattle.findings.specs.declared.Fault as value
use Rattle.findings.specs.Value.{clock_fault_of, fault_of}
use Rattle.spelling.specs.Places.{between, letters_at}
use Rattle.spelling.specs.Writing.{farthest}
use Rattle.spelling.proofs.Decimal.{decimal-length}
use Rattle.lines.specs.Pieces.{words, head_line, equation_line, chain_line}
use Rattle.lines.proofs.Clocks.{words_last}

-- a name is no longer than all letters
between-length : (letters : List ℕ) (a b : ℕ) → length (between letters a b) ≤ length letters
unfolding between
between-length letters a b = go (leb a b && leb b (length letters))
  where
    go : (t : Bool) → length (choose t (take (b - a) (drop a letters)) []) ≤ length letters
    go true = simp (length-take, length-drop) (omega arith)
    go false = omega arith

pub name-length : (starts letters : List ℕ) (x : ℕ) → length (letters_at starts letters x) ≤ length letters
unfolding letters_at
name-length starts letters x = between-length letters (get_or starts x 0) (get_or starts (x + 1) 0)

when-length : (t : Test) → length (when_text t) ≤ 9
unfolding bytes
when-length Test.On = lit≤ tt
when-length Test.Not = lit≤ tt

sign-length : (t : Test) → length (test_sign t) ≤ 1
unfolding bytes
sign-length Test.On = lit≤ tt
sign-length Test.Not = lit≤ tt

port-length : (t : Bool) → length (choose t (bytes " — inputs and outputs are always base-clocked; use merge(...) to bring the stream back up") []) ≤ 100
unfolding bytes
port-length true = lit≤ tt
port-length false = lit≤ tt

-- a fault whose clocks have at most eight conditions
unfoldable pub IsShallow : Fault → Type 0
IsShallow (left_elsewhere x c d p) = (depth c ≤ 8) × (depth d ≤ 8)
IsShallow (used_elsewhere x c d) = (depth c ≤ 8) × (depth d ≤ 8)
IsShallow (when_elsewhere k c) = depth c ≤ 8
IsShallow (clock_name_elsewhere x c d) = (depth c ≤ 8) × (depth d ≤ 8)
IsShallow (undeclared x) = Unit {0}
IsShallow (no_default x) = Unit {0}
IsShallow (no_output_default x g) = Unit {0}
IsShallow not_single_call = Unit {0}
IsShallow pre_untyped = Unit {0}

module _ (letters : ℕ → Letters) (m : ℕ) (short : (x : ℕ) → length (letters x) ≤ m) where
  condition-length : (k : Condition) → length (condition_text letters k) ≤ m + 9
  condition-length k = omega (arith, length-append (when_text k.test) (letters k.name), when-length k.test, short k.name)

  words-length : (c : Clock) → length (words letters c) ≤ depth c * (m + 10)
  unfolding words conditions separated bytes
  words-length base = omega arith
  words-length (base ↓ k) = omega (arith, suc-mul 0 (m + 10), condition-length k)
  words-length ((c ↓ j) ↓ k) =
      omega (arith, suc-mul (depth (c ↓ j)) (m + 10), words-length (c ↓ j), condition-length k, ap length (words_last letters c j k), length-append (words letters (c ↓ j)) (32 ∷ condition_text letters k))

  -- a clock in a text
  clock-length : (c : Clock) → depth c ≤ 8 → length (clock_text letters c) ≤ 8 * m + 88
  unfolding clock_text words bytes
  clock-length base h = omega arith
  clock-length (c ↓ k) h =
      omega (arith, words-length (c ↓ k), mul-le-mul_right (m + 10) h, length-append (words letters (c ↓ k)) (bytes "`"))

  -- a clock in the listing
  pub key-length : (c : Clock) → length (clock_key letters c) ≤ 4 + depth c * (m + 2)
  unfolding clock_key bytes
  key-length base = omega arith
  key-length (c ↓ k) =
      omega (arith, key-length c, suc-mul (depth c) (m + 2), short k.name, sign-length k.test, length-append (clock_key letters c) (47 ∷ (letters k.name ++ test_sign k.test)), length-append (letters k.name) (test_sign k.test))

  -- a fault in a text
  pub fault-length : (f : Fault) → IsShallow f → length (fault_text letters f) ≤ 17 * m + 400
  unfolding fault_text bytes IsShallow
  fault-length (left_elsewhere x c d p) h = simp length-append (omega (arith, short x, clock-length c h.0, clock-length d h.1, port-length p))
  fault-length (used_elsewhere x c d) h = simp length-append (omega (arith, short x, clock-length c h.0, clock-length d h.1))
  fault-length (when_elsewhere k c) h = simp length-append (omega (arith, when-length k.test, short k.name, clock-length c h))
  fault-length (clock_name_elsewhere x c d) h = simp length-append (omega (arith, short x, clock-length c h.0, clock-length d h.1))
  fault-length (undeclared x) h = simp length-append (omega (arith, short x))
  fault-length (no_default x) h = simp length-append (omega (arith, short x))
  fault-length (no_output_default x g) h = simp length-append (omega (arith, short x, short g))
  fault-length not_single_call h = omega arith
  fault-length pre_untyped h = omega arith

  -- the lines of a listing
  pub head-length : (name equations passes chains : ℕ) → length (head_line letters name equations passes chains) ≤ m + 64
  unfolding head_line bytes
  head-length name e p c = simp length-append (omega (arith, short name, decimal-length e, decimal-length p, decimal-length c))

  pub equation-length : (i : ℕ) (c : Clock) → depth c ≤ 8 → length (equation_line letters i c) ≤ 8 * m + 42
  unfolding equation_line bytes
  equation-length i c h = simp length-append (omega (arith, decimal-length i, key-length c, mul-le-mul_right (m + 2) h))

  pub chain_length : (c : Clock) → depth c ≤ 8 → length (chain_line letters c) ≤ 8 * m + 27
  unfolding chain_line bytes
  chain_length c h = simp length-append (omega (arith, key-length c, mul-le-mul_right (m + 2) h))

  pub line-length : (i : ℕ) (f : NodeFault) → IsShallow f.fault → length (fault_line letters i f) ≤ 17 * m + 470
  unfolding fault_line bytes
  line-length i f h =
      simp length-append (omega (arith, decimal-length i, decimal-length (fault_number f.fault), decimal-length f.equation, fault-length f.fault h))

-- each is no longer than b
unfoldable pub Within : ℕ → List Letters → Type 0
Within b [] = Unit {0}
Within b (l ∷ ls) = (length l ≤ b) × Within b ls

-- some one after another
pub join-length : (b : ℕ) (ls : List Letters) → Within b ls → length (join ls) ≤ length ls * b
unfolding Within
join-length b [] h = omega arith
join-length b (l ∷ ls) h = omega (arith, h.0, join-length b ls h.1, length-append l (join ls), suc-mul (length ls) b)

-- clocks by value have at most eight conditions
shallow-clock : (f : ClockFault) → IsShallow (clock_fault_of f)
unfolding IsShallow
shallow-clock (ClockFault.LeftElsewhere e p) = (value-depth e.on, value-depth e.expected)
shallow-clock (ClockFault.UsedElsewhere e) = (value-depth e.on, value-depth e.expected)
shallow-clock (ClockFault.WhenElsewhere k d) = value-depth d
shallow-clock (ClockFault.ClockNameElsewhere e) = (value-depth e.on, value-depth e.expected)

pub shallow-of : (f : value.Fault) → IsShallow (fault_of f)
unfolding IsShallow
shallow-of (value.Fault.Clock f) = shallow-clock f
shallow-of (value.Fault.Undeclared x) = tt
shallow-of (value.Fault.NoDefault x) = tt
shallow-of (value.Fault.NoOutputDefault x f) = tt
shallow-of value.Fault.NotSingleCall = tt
shallow-of value.Fault.PreUntyped = tt

-- a fault's text can be measured
pub fault-fits : (starts letters : List ℕ) (f : value.Fault) → length letters ≤ 65536 → length (fault_text (letters_at starts letters) (fault_of f)) ≤ farthest
fault-fits starts letters f h = omega (arith, fault-length (letters_at starts letters) (length letters) (name-length starts letters) (fault_of f) (shallow-of f))
