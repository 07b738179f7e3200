-- What a question is answered: document 01, "Turned down, in checking order".
use Rattle.std.specs.Prelude.{ℕ, List, Bool, true, false, leb, length}
use Rattle.definitions.specs.declared.Refusal.{Refusal}
use Rattle.definitions.specs.declared.FaultRecord.{FaultRecord}
use Rattle.definitions.specs.Lists.{over}

-- "A refusal is its number and place": the number
abbrev pub number : Refusal → ℕ
number Refusal.Short = 1
number (Refusal.Size p) = 2
number Refusal.Length = 3
number (Refusal.Name p) = 4
number (Refusal.Token p) = 5
number (Refusal.Limit p) = 6
number (Refusal.Cycle p) = 7
number Refusal.Missing = 8
number (Refusal.Deep p) = 9
number (Refusal.Faulty n) = 10
number Refusal.Large = 11
number (Refusal.Lent n) = 12

-- the place, "0 where none is named"; of 12, "the place is the number needed"
abbrev pub place : Refusal → ℕ
place Refusal.Short = 0
place (Refusal.Size p) = p
place Refusal.Length = 0
place (Refusal.Name p) = p
place (Refusal.Token p) = p
place (Refusal.Limit p) = p
place (Refusal.Cycle p) = p
place Refusal.Missing = 0
place (Refusal.Deep p) = p
place (Refusal.Faulty n) = 0
place Refusal.Large = 0
place (Refusal.Lent n) = n

-- how many nodes are faulty: "the count is of all"
abbrev pub fault_count : Refusal → ℕ
fault_count Refusal.Short = 0
fault_count (Refusal.Size p) = 0
fault_count Refusal.Length = 0
fault_count (Refusal.Name p) = 0
fault_count (Refusal.Token p) = 0
fault_count (Refusal.Limit p) = 0
fault_count (Refusal.Cycle p) = 0
fault_count Refusal.Missing = 0
fault_count (Refusal.Deep p) = 0
fault_count (Refusal.Faulty n) = n
fault_count Refusal.Large = 0
fault_count (Refusal.Lent n) = 0

-- accepted, with what was asked for; refused; under 10, with each faulty node's first fault
pub data Answer (A : Type 0) : Type 0 where
  accepted : A → Answer A
  refused : Refusal → Answer A
  faulty : List FaultRecord → Answer A

infixl 20 ◌>>=◌
-- what comes next where nothing is refused
abbrev pub ◌>>=◌ : {A B : Type 0} → Answer A → (A → Answer B) → Answer B
accepted a >>= f = f a
refused r >>= f = refused r
faulty l >>= f = faulty l

-- a test that must pass, else a refusal
abbrev pub must : Bool → Refusal → Answer (Unit {0})
must true r = accepted tt
must false r = refused r

-- what was asked for, if the caller lends bytes enough, else 12 with the number needed
abbrev pub lending : ℕ → ℕ → Answer (Unit {0})
lending needed lent = must (leb needed lent) (Refusal.Lent needed)

-- what the caller's bytes are afterwards: "An accepted output fills its first bytes, the rest unchanged";
-- "A refusal .. writes no byte of output."
abbrev pub bytes_after : Answer (List ℕ) → List ℕ → List ℕ
bytes_after (accepted out) lent = over out lent
bytes_after (refused r) lent = lent
bytes_after (faulty l) lent = lent

-- what the lent fault list is afterwards: "Under 10 only, the lent fault list gets each faulty node's first fault, as far as it
-- reaches; the count is of all; later entries keep their values."
abbrev pub faults_after : {A : Type 0} → Answer A → List FaultRecord → List FaultRecord
faults_after (accepted a) lent = lent
faults_after (refused r) lent = lent
faults_after (faulty l) lent = over l lent

-- the refusal that an answer tells, where it does
pub data Told : Type 0 where
  fine : Told
  down : Refusal → Told

abbrev pub told : {A : Type 0} → Answer A → Told
told (accepted a) = fine
told (refused r) = down r
told (faulty l) = down (Refusal.Faulty (length l))
