-- What the entry points answer, and what the lent lists and bytes are afterwards, by the definitions' answers.
use Rattle.std.specs.Prelude.{ℕ, ◌≡◌, List, length, Result, Ok, Err}
use Rattle.query.specs.declared.NodeCounts.{NodeCounts}
use Rattle.definitions.specs.declared.Refusal.{Refusal}
use Rattle.definitions.specs.declared.FaultRecord.{FaultRecord}
use Rattle.definitions.specs.Lists.{join, numbered, Letters}
use Rattle.definitions.specs.Tree.{Node}
use Rattle.definitions.specs.Refusals.{Answer, accepted, refused, faulty, bytes_after, ◌>>=◌}
use Rattle.definitions.specs.Output.{letters_of}
use Rattle.definitions.specs.Answer.{Input, NodeClocks, clockings, node_at, node_clocks, node_listing, clock_faults_after}
use Rattle.lines.specs.Lending.{lent_text}
use Rattle.query.specs.Words.{clocks_over, counts_of}

-- the questions of a sheet that was read: `clocks_answer`, `listing_answer` and `listings_answer` behind refusals 1 to 7
abbrev pub clocks_of : Input → ℕ → Answer NodeClocks
clocks_of r k = node_at r k >>= λ n. accepted (node_clocks (letters_of r.names) n)

abbrev pub listing_of : Input → ℕ → ℕ → Answer Letters
listing_of r k lent = node_at r k >>= λ n. lent_text (node_listing (letters_of r.names) k n) lent

-- the listings of these nodes, one behind another
abbrev pub nodes_listed : (ℕ → Letters) → List Node → ℕ → Answer Letters
nodes_listed letters nodes lent = clockings 0 nodes >>= λ ns. lent_text (join (numbered (node_listing letters) 0 ns)) lent

abbrev pub listings_of : Input → ℕ → Answer Letters
listings_of r lent = nodes_listed (letters_of r.names) r.sheet.nodes lent

-- the clock query's answer: a node's name, passes and counts, or the refusal
abbrev pub clocks_answered : Answer NodeClocks → Result NodeCounts Refusal
clocks_answered (accepted q) = Ok (counts_of q)
clocks_answered (refused r) = Err r
clocks_answered (faulty l) = Err (Refusal.Faulty (length l))

-- the list of equations' clocks afterwards: each equation's clock, as far as the list reaches; unchanged where refused
abbrev pub equations_after : Answer NodeClocks → List ℕ → List ℕ
equations_after (accepted q) lent = clocks_over q.equations lent
equations_after (refused r) lent = lent
equations_after (faulty l) lent = lent

-- the list of chains afterwards
abbrev pub chains_after : Answer NodeClocks → List ℕ → List ℕ
chains_after (accepted q) lent = clocks_over q.chains lent
chains_after (refused r) lent = lent
chains_after (faulty l) lent = lent

-- the clock query of node k: the answer, and the three lent lists afterwards
pub record ClocksGiven (k : ℕ) (v : Answer NodeClocks) (es cs : List ℕ) (fs : List FaultRecord) (es' cs' : List ℕ) (fs' : List FaultRecord) (r : Result NodeCounts Refusal) : Type 0 where
  pub answer : r ≡ clocks_answered v
  pub equations : es' ≡ equations_after v es
  pub chains : cs' ≡ chains_after v cs
  pub faults : fs' ≡ clock_faults_after k v fs

-- a listing's answer: how many bytes were written, or the refusal
abbrev pub listing_answered : Answer Letters → Result ℕ Refusal
listing_answered (accepted text) = Ok (length text)
listing_answered (refused r) = Err r
listing_answered (faulty l) = Err (Refusal.Faulty (length l))

-- a listing was asked for: the answer, and the lent bytes afterwards
pub record ListingGiven (v : Answer Letters) (lent after : List ℕ) (r : Result ℕ Refusal) : Type 0 where
  pub answer : r ≡ listing_answered v
  pub bytes : after ≡ bytes_after v lent
