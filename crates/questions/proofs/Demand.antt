-- Demand 3 of what was written. Assumes nothing.
use Prim.Native.Nat.{ℕ, ◌≤◌}
use mathlib.Core.Path.{◌≡◌, refl, sym, ◌∙◌, subst⁻¹}
use mathlib.Core.List.{List}
use lib.Dec.{leb}
use lib.ListN.{length, take}
use borrow.Author.Tests.{leb-true}
use Rattle.std.proofs.Common.{Result, Ok, Err}
use Rattle.definitions.specs.declared.Refusal.{Refusal}
use Rattle.definitions.specs.declared.FaultRecord.{FaultRecord}
use Rattle.definitions.specs.Refusals.{Answer, accepted, refused, faulty, down, told, must}
use Rattle.definitions.specs.Output.{names_out, sheet_out, within_limits, written}
use Rattle.definitions.specs.Answer.{input, clockings, first_faults, unless_faulty, rewrite_answer}
use Rattle.shapes.specs.Shape.{Bytes}
use Rattle.shapes.proofs.Accepts.{Accepts, accepts, no-refused, no-faulty, accepts-after, accepts-must, is-accepted}
use Rattle.shapes.proofs.Facts.{over-there}
use Rattle.runs.specs.Demand.{DemandThreeAt}
use Rattle.runs.proofs.Sheet.{demand-three-at}
use Rattle.stateless.proofs.Answers.{rewrite-refused}
use Rattle.declock_project.specs.Given.{RewriteGiven}
use Rattle.declock_project.proofs.Outcomes.{given-refused}

-- ---- an accepted output has room
any-accepted : {A : Type 0} (a : Answer A) → Accepts (λ _. Unit {0}) a
any-accepted (accepted a) = accepts tt
any-accepted (refused r) = no-refused
any-accepted (faulty l) = no-faulty

room : (bytes : List ℕ) (lent : ℕ) → Accepts (λ out. length out ≤ lent) (rewrite_answer bytes lent)
unfolding rewrite_answer
room bytes lent =
    accepts-after _ (any-accepted (input bytes)) (λ r _.
    accepts-after _ (any-accepted (clockings 0 r.sheet.nodes)) (λ ns _.
    accepts-after _ (any-accepted (unless_faulty (first_faults r ns))) (λ _ _.
    accepts-after _ (any-accepted (must (within_limits (names_out r.names r.sheet ns) (sheet_out r.names r.sheet ns)) Refusal.Large)) (λ _ _.
    accepts-after _ (accepts-must (leb (length (written (names_out r.names r.sheet ns) (sheet_out r.names r.sheet ns))) lent) _) (λ _ l.
    accepts (leb-true (length (written (names_out r.names r.sheet ns) (sheet_out r.names r.sheet ns))) lent l))))))

-- THE LAW: where so many bytes were written, they keep every plain node's runs
pub written-demand : (bytes lent : List ℕ) (list : List FaultRecord) (lent' : List ℕ) (list' : List FaultRecord) (a : Result ℕ Refusal) → Bytes bytes → RewriteGiven (rewrite_answer bytes (length lent)) lent list lent' list' a
    → (n : ℕ) → a ≡ Ok n → DemandThreeAt bytes (take n lent')
written-demand bytes lent list lent' list' a b g n e = go (rewrite_answer bytes (length lent)) refl g
  where
    go : (v : Answer (List ℕ)) → rewrite_answer bytes (length lent) ≡ v → RewriteGiven v lent list lent' list' a → DemandThreeAt bytes (take n lent')
    go (refused r) h x = let y = sym e ∙ x.answer in absurd cc
    go (faulty l) h x = let y = sym e ∙ x.answer in absurd cc
    go (accepted out) h x =
        let y = sym e ∙ x.answer in
        let m : n ≡ length out = cc in
        let f : take n lent' ≡ out = rw (x.bytes, m) (over-there out lent (is-accepted (rewrite_answer bytes (length lent)) out h (room bytes (length lent)))) in
        subst⁻¹ (DemandThreeAt bytes) f (demand-three-at bytes (length lent) out b h)

-- refusals 1 to 7
pub rewrite-down : (bytes lent : List ℕ) (list : List FaultRecord) (x : Refusal) → told (input bytes) ≡ down x → RewriteGiven (rewrite_answer bytes (length lent)) lent list lent list (Err x)
rewrite-down bytes lent list x h = given-refused (rewrite_answer bytes (length lent)) lent list x (rewrite-refused bytes (length lent) x h)

-- what was written, and that it keeps every plain node's runs
pub rewritten : (bytes lent : List ℕ) (list : List FaultRecord) (lent' : List ℕ) (list' : List FaultRecord) {lent'' : List ℕ} {list'' : List FaultRecord} {a : Result ℕ Refusal} → Bytes bytes → RewriteGiven (rewrite_answer bytes (length lent)) lent list lent' list' a → lent'' ≡ lent' → list'' ≡ list'
    → RewriteGiven (rewrite_answer bytes (length lent)) lent list lent'' list'' a × ((n : ℕ) → a ≡ Ok n → DemandThreeAt bytes (take n lent''))
rewritten bytes lent list lent' list' b g d e = let h : RewriteGiven (rewrite_answer bytes (length lent)) lent list _ _ _ = rw (d, e) g in (h, written-demand bytes lent list _ _ _ b h)
