-- What checking meets, in a table: thirty-eight words a finding.
use Rattle.std.specs.Prelude.{ℕ, zero, suc, ◌+◌, ◌*◌, ◌≤◌, ◌<◌, ◌≡◌, List, [], ◌∷◌, Bool, true, false, ◌⊎◌, length, get_or, eqb, ltb}
use Rattle.definitions.specs.Lists.{choose}
use Rattle.definitions.specs.Clock.{Clock}
use Rattle.definitions.specs.InferClocks.{Fault, left_elsewhere, used_elsewhere, when_elsewhere, clock_name_elsewhere, NodeFault, Finding, found, site, too_deep}
use Rattle.clock_tables.specs.Flat.{test_of, clock_in}

-- the fault of this number, a name, a flag, the name's clock and the clock expected
abbrev pub fault_as : ℕ → ℕ → ℕ → Clock → Clock → Fault
fault_as k x w c d =
    choose (eqb k 1) (left_elsewhere x c d (eqb w 1))
    (choose (eqb k 2) (used_elsewhere x c d)
    (choose (eqb k 3) (when_elsewhere (record { name = x; test = test_of w }) d) (clock_name_elsewhere x c d)))

-- the finding of this kind: up to 4 a fault of equation i, 5 a site, else too deep a clock
abbrev pub finding_as : ℕ → ℕ → ℕ → ℕ → Clock → Clock → Finding
finding_as k x w i c d = choose (ltb k 5) (found (record { equation = i; fault = fault_as k x w c d })) (choose (eqb k 5) (site d) too_deep)

module _ (t : List ℕ) (b : ℕ) where
  -- the fault in the words from b on: kind, name, flag, equation, then two clocks
  abbrev pub fault_in : NodeFault
  fault_in = record { equation = get_or t (b + 3) 0; fault = fault_as (get_or t b 0) (get_or t (b + 1) 0) (get_or t (b + 2) 0) (clock_in t (b + 4)) (clock_in t (b + 21)) }

  -- the finding there
  abbrev pub finding_in : Finding
  finding_in = finding_as (get_or t b 0) (get_or t (b + 1) 0) (get_or t (b + 2) 0) (get_or t (b + 3) 0) (clock_in t (b + 4)) (clock_in t (b + 21))

-- is a finding a fault?
abbrev pub is_fault : Finding → Bool
is_fault (found f) = true
is_fault (site c) = false
is_fault too_deep = false

-- is it the clock of a `pre` or `->`?
abbrev pub is_site : Finding → Bool
is_site (found f) = false
is_site (site c) = true
is_site too_deep = false

-- the findings of n rows, from row i on
unfoldable pub findings_from : List ℕ → ℕ → ℕ → List Finding
findings_from t i zero = []
findings_from t i (suc n) = finding_in t (38 * i) ∷ findings_from t (i + 1) n

-- the findings of the first n rows
abbrev pub findings_in : List ℕ → ℕ → List Finding
findings_in t n = findings_from t 0 n

-- the first n rows are these findings; or there are more findings than rows, and n says so
unfoldable pub FindingsHeld : List ℕ → ℕ → List Finding → Type 0
FindingsHeld t n fs = ((38 * n ≤ length t) × (findings_in t n ≡ fs)) ⊎ ((length t < 38 * n) × (length t < 38 * length fs))
