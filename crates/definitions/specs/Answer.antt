-- The questions: rewriting a sheet, a node's clocks, the listing, the text of a fault.
use Rattle.std.specs.Prelude.{ℕ, zero, suc, List, [], ◌∷◌, ◌++◌, map, eqb, length}
use Rattle.definitions.specs.declared.Refusal.{Refusal}
use Rattle.definitions.specs.declared.FaultRecord.{FaultRecord}
use Rattle.definitions.specs.Lists.{join, numbered, over, Letters}
use Rattle.definitions.specs.Tree.{Node, Sheet}
use Rattle.definitions.specs.Refusals.{Answer, accepted, refused, faulty, must, lending, ◌>>=◌}
use Rattle.definitions.specs.Reading.{Got, got, rejected}
use Rattle.definitions.specs.Grammar.{sheet}
use Rattle.definitions.specs.Bytes.{parts}
use Rattle.definitions.specs.Types.{first_cycle}
use Rattle.definitions.specs.Clock.{Clock}
use Rattle.definitions.specs.InferClocks.{fault_number, NodeFault, deep, formed, clocking, clock_faults, chains}
use Rattle.definitions.specs.Output.{letters_of, ClockedNode, node_faults, names_out, sheet_out, within_limits, written}
use Rattle.definitions.specs.Texts.{fault_text, listing, fault_line}

-- what a sheet's bytes say
pub record Input : Type 0 where
  pub names : List Letters
  pub sheet : Sheet

-- what reading answers
abbrev pub answered : {A : Type 0} → Got A → Answer A
answered (got a p) = accepted a
answered (rejected r) = refused r

-- refusals 1 to 7
unfoldable pub input : List ℕ → Answer Input
unfolding parts sheet first_cycle
input bytes =
    parts bytes >>= λ p.
    answered (sheet (length p.names) p.tokens 0) >>= λ s.
    let cycle = first_cycle s.types [] s.types in
    must (eqb cycle (length s.types)) (Refusal.Cycle cycle) >>= λ _.
    accepted (record { names = p.names; sheet = s })

-- each node with its clocks, from node i on; 9: "A clock of more than eight conditions is formed, in any pass or check of a node that
-- uses clocks; the place is the first such node." (One that uses no clocks forms none: `clockless` in crate shapes.)
unfoldable pub clockings : ℕ → List Node → Answer (List ClockedNode)
unfolding clocking
clockings i [] = accepted []
clockings i (n ∷ ns) =
    elim (clocking n) [
      | deep ↦ refused (Refusal.Deep i)
      | formed k ↦ clockings (suc i) ns >>= λ rest. accepted (record { node = n; clocking = k } ∷ rest)
    ]

-- a fault of node i as a record
abbrev pub fault_record : ℕ → NodeFault → FaultRecord
fault_record i f = record { node = i; fault = fault_number f.fault; equation = f.equation }

-- the first of some faults of node i, as a record
abbrev pub first_of : ℕ → List NodeFault → List FaultRecord
first_of i [] = []
first_of i (f ∷ fs) = fault_record i f ∷ []

-- 10, where there is a fault
abbrev pub unless_faulty : List FaultRecord → Answer (Unit {0})
unless_faulty [] = accepted tt
unless_faulty (f ∷ fs) = faulty (f ∷ fs)

-- "each faulty node's first fault"
unfoldable pub first_faults : Input → List ClockedNode → List FaultRecord
unfolding node_faults
first_faults r ns = join (numbered (λ i n. first_of i (node_faults r.names r.sheet n)) 0 ns)

-- the rewriting of a sheet, the caller lending so many bytes
unfoldable pub rewrite_answer : List ℕ → ℕ → Answer (List ℕ)
unfolding input clockings first_faults names_out sheet_out within_limits written
rewrite_answer bytes lent =
    input bytes >>= λ r.
    clockings 0 r.sheet.nodes >>= λ ns.
    unless_faulty (first_faults r ns) >>= λ _.
    let names = names_out r.names r.sheet ns in
    let out = sheet_out r.names r.sheet ns in
    must (within_limits names out) Refusal.Large >>= λ _.
    let output = written names out in
    lending (length output) lent >>= λ _.
    accepted output

-- what a list has at a place, else 8
abbrev pub item_at : {A : Type 0} → List A → ℕ → Answer A
item_at [] k = refused Refusal.Missing
item_at (a ∷ l) zero = accepted a
item_at (a ∷ l) (suc k) = item_at l k

-- node k of a sheet, with its clocks: 8 is tested before 9, which looks at all nodes
unfoldable pub node_at : Input → ℕ → Answer ClockedNode
unfolding clockings
node_at r k =
    item_at r.sheet.nodes k >>= λ n.
    clockings 0 r.sheet.nodes >>= λ ns.
    item_at ns k

-- a node's clocks: its name, passes, each equation's clock, chains, and all its clock faults
pub record NodeClocks : Type 0 where
  pub name : ℕ
  pub passes : ℕ
  pub equations : List Clock
  pub chains : List Clock
  pub faults : List NodeFault

unfoldable pub node_clocks : (ℕ → Letters) → ClockedNode → NodeClocks
unfolding chains clock_faults
node_clocks letters n =
    record {
      name = n.node.name;
      passes = n.clocking.passes;
      equations = map (λ e. e.clock) n.clocking.equations;
      chains = chains letters n.clocking.findings;
      faults = clock_faults n.clocking.findings;
    }

-- the clock query of node k; it "skips 10 and 11"
unfoldable pub clocks_answer : List ℕ → ℕ → Answer NodeClocks
unfolding input node_at node_clocks
clocks_answer bytes k = input bytes >>= λ r. node_at r k >>= λ n. accepted (node_clocks (letters_of r.names) n)

-- what the lent fault list is after the clock query of node k, which "lists all its clock faults so, as no refusal"
abbrev pub clock_faults_after : ℕ → Answer NodeClocks → List FaultRecord → List FaultRecord
clock_faults_after k (accepted q) lent = over (map (fault_record k) q.faults) lent
clock_faults_after k (refused r) lent = lent
clock_faults_after k (faulty l) lent = lent

-- a node's listing, with a line for each of its clock faults
unfoldable pub node_listing : (ℕ → Letters) → ℕ → ClockedNode → Letters
unfolding node_clocks listing fault_line
node_listing letters i n =
    let q = node_clocks letters n in
    listing letters q.name q.passes q.equations q.chains ++ join (map (fault_line letters i) q.faults)

-- the listing of node k, the caller lending so many bytes
unfoldable pub listing_answer : List ℕ → ℕ → ℕ → Answer Letters
unfolding input node_at node_listing
listing_answer bytes k lent =
    input bytes >>= λ r.
    node_at r k >>= λ n.
    let text = node_listing (letters_of r.names) k n in
    lending (length text) lent >>= λ _.
    accepted text

-- the listing of every node, in order
unfoldable pub listings_answer : List ℕ → ℕ → Answer Letters
unfolding input clockings node_listing
listings_answer bytes lent =
    input bytes >>= λ r.
    clockings 0 r.sheet.nodes >>= λ ns.
    let text = join (numbered (node_listing (letters_of r.names)) 0 ns) in
    lending (length text) lent >>= λ _.
    accepted text

-- the text of fault j of node k, "from 0; its clock faults, else rewriting's first", the caller lending so many bytes;
-- 8: "or, tested after 9, the fault"
unfoldable pub text_answer : List ℕ → ℕ → ℕ → ℕ → Answer Letters
unfolding input node_at node_faults fault_text
text_answer bytes k j lent =
    input bytes >>= λ r.
    node_at r k >>= λ n.
    item_at (node_faults r.names r.sheet n) j >>= λ f.
    let text = fault_text (letters_of r.names) f.fault in
    lending (length text) lent >>= λ _.
    accepted text

-- the line of the first of some faults of node i
abbrev pub first_line : (ℕ → Letters) → ℕ → List NodeFault → Letters
first_line letters i [] = []
first_line letters i (f ∷ fs) = fault_line letters i f

-- each faulty node's first fault, a line each, as the rewriting of a sheet says them behind refusal 10
unfoldable pub first_lines : Input → List ClockedNode → Letters
unfolding node_faults fault_line
first_lines r ns = join (numbered (λ i n. first_line (letters_of r.names) i (node_faults r.names r.sheet n)) 0 ns)

-- these lines, the caller lending so many bytes
unfoldable pub fault_lines_answer : List ℕ → ℕ → Answer Letters
unfolding input clockings first_lines
fault_lines_answer bytes lent =
    input bytes >>= λ r.
    clockings 0 r.sheet.nodes >>= λ ns.
    let text = first_lines r ns in
    lending (length text) lent >>= λ _.
    accepted text
