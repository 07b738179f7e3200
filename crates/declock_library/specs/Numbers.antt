-- What an exported function answers, by the definitions' answer: a number, a place, and a count of faulty nodes.
use Rattle.std.specs.Prelude.{ℕ, ◌≡◌, List, [], ◌∷◌, length, Result, Ok, Err}
use Rattle.query.specs.declared.NodeCounts.{NodeCounts}
use Rattle.definitions.specs.declared.Refusal.{Refusal}
use Rattle.definitions.specs.declared.FaultRecord.{FaultRecord}
use Rattle.definitions.specs.Lists.{over}
use Rattle.definitions.specs.Refusals.{Answer, accepted, refused, faulty, number, place, fault_count, bytes_after, faults_after}
use Rattle.definitions.specs.Answer.{NodeClocks, clock_faults_after}
use Rattle.listings.specs.Answers.{equations_after, chains_after}

-- "A refusal is its number and place": the number, 10 of faults; 0 where accepted
abbrev pub number_of : {A : Type 0} → Answer A → ℕ
number_of (accepted a) = 0
number_of (refused r) = number r
number_of (faulty l) = 10

-- the place, "0 where none is named"; where accepted, how many bytes were written
abbrev pub place_of : Answer (List ℕ) → ℕ
place_of (accepted out) = length out
place_of (refused r) = place r
place_of (faulty l) = 0

-- how many nodes are faulty: "the count is of all"
abbrev pub count_of : Answer (List ℕ) → ℕ
count_of (accepted out) = 0
count_of (refused r) = fault_count r
count_of (faulty l) = length l

-- the same of a clock query, which writes no bytes
abbrev pub query_place_of : Answer NodeClocks → ℕ
query_place_of (accepted q) = 0
query_place_of (refused r) = place r
query_place_of (faulty l) = 0

-- the five counts: a node's name, passes, and how many equations, chains and clock faults it has; unchanged where refused
abbrev pub counts_after : Answer NodeClocks → List ℕ → List ℕ
counts_after (accepted q) lent = over (q.name ∷ q.passes ∷ length q.equations ∷ length q.chains ∷ length q.faults ∷ []) lent
counts_after (refused r) lent = lent
counts_after (faulty l) lent = lent

-- bytes were asked for: the number answered, the place told, and the lent bytes afterwards
pub record BytesTold (v : Answer (List ℕ)) (lent lent' : List ℕ) (told answered : ℕ) : Type 0 where
  pub number : answered ≡ number_of v
  pub place : told ≡ place_of v
  pub bytes : lent' ≡ bytes_after v lent

-- a sheet's rewriting was asked for: the number answered, the place and the count told, and the lent bytes and fault list afterwards
pub record RewritingTold (v : Answer (List ℕ)) (lent : List ℕ) (list : List FaultRecord) (lent' : List ℕ) (list' : List FaultRecord) (told counted answered : ℕ) : Type 0 where
  pub number : answered ≡ number_of v
  pub place : told ≡ place_of v
  pub count : counted ≡ count_of v
  pub bytes : lent' ≡ bytes_after v lent
  pub faults : list' ≡ faults_after v list

-- the clock query of node k: the number answered, the place told, and the counts and the three lent lists afterwards
pub record ClocksTold (k : ℕ) (v : Answer NodeClocks) (es cs : List ℕ) (fs : List FaultRecord) (es' cs' : List ℕ) (fs' : List FaultRecord) (ns ns' : List ℕ) (told answered : ℕ) : Type 0 where
  pub number : answered ≡ number_of v
  pub place : told ≡ query_place_of v
  pub counts : ns' ≡ counts_after v ns
  pub equations : es' ≡ equations_after v es
  pub chains : cs' ≡ chains_after v cs
  pub faults : fs' ≡ clock_faults_after k v fs

-- the number and the place of each case of an answer, the count of faulty nodes, and the counts of a clock query
abbrev pub told_number : {A : Type 0} → Result A Refusal → ℕ
told_number (Ok a) = 0
told_number (Err r) = number r

abbrev pub bytes_place : Result ℕ Refusal → ℕ
bytes_place (Ok n) = n
bytes_place (Err r) = place r

abbrev pub faulty_count : Result ℕ Refusal → ℕ
faulty_count (Ok n) = 0
faulty_count (Err r) = fault_count r

abbrev pub clocks_place : Result NodeCounts Refusal → ℕ
clocks_place (Ok c) = 0
clocks_place (Err r) = place r

abbrev pub clocks_counts : Result NodeCounts Refusal → List ℕ → List ℕ
clocks_counts (Ok c) lent = over (c.name ∷ c.passes ∷ c.equations ∷ c.chains ∷ c.faults ∷ []) lent
clocks_counts (Err r) lent = lent
