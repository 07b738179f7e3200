-- What is answered and written, refusal by refusal. Assumes nothing.
use mathlib.Core.Path.{◌≡◌, refl, ◌∙◌, ap}
use mathlib.Core.List.{List}
use Prim.Native.Nat.{ℕ, ◌<◌}
use native.Mathlib.Omega.{arith}
use lib.ListN.{length}
use Rattle.std.proofs.Common.{Result, Ok, Err}
use Rattle.definitions.specs.declared.Refusal.{Refusal}
use Rattle.definitions.specs.declared.FaultRecord.{FaultRecord}
use Rattle.definitions.specs.Lists.{Letters}
use Rattle.definitions.specs.Refusals.{Answer, accepted, ◌>>=◌}
use Rattle.definitions.specs.Output.{letters_of, ClockedNode}
use Rattle.definitions.specs.Answer.{Input, node_at, node_clocks, node_listing}
use Rattle.lines.specs.declared.ToldNode as listing
use Rattle.lines.specs.Lending.{lent_text, Gives}
use Rattle.query.specs.declared.NodeCounts.{NodeCounts}
use Rattle.grammar.specs.declared.source.Source.{Source}
use Rattle.spelling.specs.declared.named.NamedSource.{NamedSource}
use Rattle.spelling.specs.Named.{Short}
use Rattle.lines.specs.ToldClocks.{NodeWithClocks}
use Rattle.query.specs.Standing.{Standing, NodeTold}
use Rattle.query.specs.Words.{Written}
use Rattle.listings.specs.Answers.{clocks_of, listing_of, listing_answered, ClocksGiven, ListingGiven}

-- a sheet that stands is short
pub short-of : {n : NamedSource} {i : Input} → Standing n.spelling n.source i → Short n
short-of s = record { few-letters = s.few-letters; few-tokens = s.few-tokens }

pub listing-same : (v w : Answer Letters) (lent after : List ℕ) (r : Result ℕ Refusal) → v ≡ w → ListingGiven w lent after r → ListingGiven v lent after r
listing-same v w lent after r e g = rw e g

-- ---- refusals 8 and 9
module _ (s : Source) (t sites : List ℕ) (i : Input) (k : ℕ) where
  pub clocks-turned : (r : Refusal) (es cs : List ℕ) (fs : List FaultRecord) → NodeTold s t sites k (Err r) (node_at i k) → ClocksGiven k (clocks_of i k) es cs fs es cs fs (Err r)
  unfolding NodeTold
  clocks-turned r es cs fs h = rw h (record { answer = refl; equations = refl; chains = refl; faults = refl })

  pub listing-turned : (r : Refusal) (lent : List ℕ) → NodeTold s t sites k (Err r) (node_at i k) → ListingGiven (listing_of i k (length lent)) lent lent (Err r)
  unfolding NodeTold
  listing-turned r lent h = rw h (record { answer = refl; bytes = refl })

  -- node k
  pub node-there : (told : listing.ToldNode) → NodeTold s t sites k (Ok told) (node_at i k) → (n : ClockedNode) × (node_at i k ≡ accepted n) × NodeWithClocks s t sites told n × (told.number ≡ k) × (k < 16)
  unfolding NodeTold
  node-there told h = h

-- the clocks of node k
pub clocks-given : (letters : ℕ → Letters) (i : Input) (k number : ℕ) (n : ClockedNode) (es cs : List ℕ) (fs : List FaultRecord) (es' cs' : List ℕ) (fs' : List FaultRecord) (r : NodeCounts) → letters ≡ letters_of i.names → number ≡ k → node_at i k ≡ accepted n
    → Written number (node_clocks letters n) es cs fs es' cs' fs' r → ClocksGiven k (clocks_of i k) es cs fs es' cs' fs' (Ok r)
clocks-given letters i k number n es cs fs es' cs' fs' r e f h w =
    let x : Written k (node_clocks (letters_of i.names) n) es cs fs es' cs' fs' r = rw (e, f) at w in
    rw h (record { answer = ap Ok x.counts; equations = x.equations; chains = x.chains; faults = x.faults })

-- ---- refusal 12
pub given : (text : Letters) (lent after : List ℕ) (r : Result ℕ Refusal) → Gives text lent r after → ListingGiven (lent_text text (length lent)) lent after r
given text lent after (Ok n) g = record { answer = ap Ok g.size ∙ ap (λ (v : Answer (Unit {0})). listing_answered (v >>= λ _. accepted text)) g.answer; bytes = g.bytes }
given text lent after (Err e) g = record { answer = ap (λ (v : Answer (Unit {0})). listing_answered (v >>= λ _. accepted text)) g.answer; bytes = g.bytes }

-- the listing of node k
pub listing-given : (letters : ℕ → Letters) (i : Input) (k number : ℕ) (n : ClockedNode) (lent after : List ℕ) (r : Result ℕ Refusal) → letters ≡ letters_of i.names → number ≡ k → node_at i k ≡ accepted n
    → ListingGiven (lent_text (node_listing letters number n) (length lent)) lent after r → ListingGiven (listing_of i k (length lent)) lent after r
listing-given letters i k number n lent after r e f h w =
    let x : ListingGiven (lent_text (node_listing (letters_of i.names) k n) (length lent)) lent after r = rw (e, f) at w in
    rw h x

pub same-below : (m k n : ℕ) → m ≡ k → k < n → m < n
same-below m k n e h = omega arith
