-- What is answered, by what is asked of a sheet that is read. Assumes nothing.
use Prim.Native.Nat.{ℕ}
use mathlib.Core.Path.{◌≡◌}
use mathlib.Core.List.{List}
use mathlib.Core.Logic.{◌⊎◌, inl, inr}
use Rattle.std.proofs.Common.{Result}
use Rattle.std.specs.Borrow.{Bor, MutBor}
use Rattle.query.specs.declared.NodeCounts.{NodeCounts}
use Rattle.definitions.specs.declared.Refusal.{Refusal}
use Rattle.definitions.specs.declared.FaultRecord.{FaultRecord}
use Rattle.definitions.specs.Lists.{Letters}
use Rattle.definitions.specs.Refusals.{Answer, refused, ◌>>=◌}
use Rattle.definitions.specs.Answer.{Input, NodeClocks, input}
use Rattle.grammar.specs.declared.source.Source.{Source}
use Rattle.spelling.specs.declared.sheet_names.SheetNames.{SheetNames}
use Rattle.workspace.specs.declared.Working.{Working}
use Rattle.stateless.proofs.Answers.{input-refused}
use Rattle.listings.specs.Answers.{ClocksGiven, ListingGiven}
use Rattle.questions.specs.Asked.{Called, NotCalled}

module _ {F R : Type 0} {step : F → SheetNames → Bor Source → MutBor Working → Result R Refusal → MutBor Working → F → Type 0} {old new : F} {b : List ℕ} {r : Result R Refusal} where
  -- what is said of an answer to f: of refusals 1 to 7, under which nothing was called, and of what the call answered
  pub asked : {A : Type 0} (f : Input → Answer A) (P : Answer A → Type 0) → ((d : NotCalled old new b r) → P (refused d.refusal)) → ((u : Called step old new b r) → P (f u.input)) → NotCalled old new b r ⊎ Called step old new b r → P (input b >>= f)
  asked f P down called (inl d) = rw (input-refused b d.refusal d.told) (down d)
  asked f P down called (inr u) = rw u.call.read.reading (called u)

-- letters over lent bytes
pub letters-asked : {F : Type 0} {step : F → SheetNames → Bor Source → MutBor Working → Result ℕ Refusal → MutBor Working → F → Type 0} {old new : F} {b out out' : List ℕ} {r : Result ℕ Refusal} (f : Input → Answer Letters)
    → NotCalled old new b r ⊎ Called step old new b r → (NotCalled old new b r → out' ≡ out) → ((u : Called step old new b r) → ListingGiven (f u.input) out out' r) → ListingGiven (input b >>= f) out out' r
letters-asked {out} {out'} {r} f x kept called = asked f (λ v. ListingGiven v out out' r) (λ d. record { answer = d.answer; bytes = kept d }) called x

-- the clocks of node k, over lent lists, which stand by another name when what held them ends
pub clocks-asked : {F : Type 0} {step : F → SheetNames → Bor Source → MutBor Working → Result NodeCounts Refusal → MutBor Working → F → Type 0} {old new : F} {b es cs es' cs' : List ℕ} {fs fs' : List FaultRecord} {r : Result NodeCounts Refusal} (k : ℕ) (f : Input → Answer NodeClocks) (es₁ cs₁ : List ℕ) (fs₁ : List FaultRecord)
    → NotCalled old new b r ⊎ Called step old new b r → (NotCalled old new b r → (es' ≡ es) × (cs' ≡ cs) × (fs' ≡ fs)) → es' ≡ es₁ → cs' ≡ cs₁ → fs' ≡ fs₁
    → ((u : Called step old new b r) → ClocksGiven k (f u.input) es cs fs es₁ cs₁ fs₁ r) → ClocksGiven k (input b >>= f) es cs fs es' cs' fs' r
clocks-asked {es} {cs} {es'} {cs'} {fs} {fs'} {r} k f es₁ cs₁ fs₁ x kept d e g called =
    asked f (λ v. ClocksGiven k v es cs fs es' cs' fs' r) (λ n. let h = kept n in record { answer = n.answer; equations = h.0; chains = h.1; faults = h.2 }) (λ u. rw (d, e, g) (called u)) x
