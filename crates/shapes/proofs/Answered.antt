-- What an accepted rewriting is made of, and that its bytes say one sheet: `rewriting`, `out_once`.
use mathlib.Core.Path.{◌≡◌, refl, sym, ◌∙◌}
use mathlib.Core.Bool.{true}
use mathlib.Core.List.{List, [], ◌∷◌}
use Prim.Native.Nat.{ℕ, ◌≤◌}
use lib.Dec.{leb}
use lib.ListN.{length}
use Rattle.std.proofs.lemmas.Bool.{leb-true}
use Rattle.definitions.specs.declared.FaultRecord.{FaultRecord}
use Rattle.definitions.specs.declared.Refusal.{Refusal}
use Rattle.definitions.specs.Lists.{Letters}
use Rattle.definitions.specs.Tree.{Sheet}
use Rattle.definitions.specs.Refusals.{Answer, accepted, refused, faulty}
use Rattle.definitions.specs.Output.{ClockedNode, names_out, sheet_out, within_limits, written}
use Rattle.definitions.specs.Answer.{Input, input, clockings, first_faults, unless_faulty, rewrite_answer}
use Rattle.shapes.proofs.Accepts.{Accepts, accepts, no-refused, no-faulty, accepts-after, accepts-must, is-accepted}
use Rattle.shapes.proofs.Once.{written_once}
use Rattle.shapes.proofs.OutputShape.{out-shaped}
use Rattle.shapes.specs.Shape.{Bytes, ShapedSheet, SizedSheet}

-- the steps of a rewriting that was accepted
pub record Rewriting (bytes : List ℕ) (lent : ℕ) (out : List ℕ) : Type 0 where
  pub source : Input
  pub reading : input bytes ≡ accepted source
  pub nodes : List ClockedNode
  pub clocks : clockings 0 source.sheet.nodes ≡ accepted nodes
  pub no-faults : first_faults source nodes ≡ []
  pub within : within_limits (names_out source.names source.sheet nodes) (sheet_out source.names source.sheet nodes) ≡ true
  pub writing : written (names_out source.names source.sheet nodes) (sheet_out source.names source.sheet nodes) ≡ out
  pub room : length out ≤ lent

pub accepted-itself : {A : Type 0} (a : Answer A) → Accepts (λ x. a ≡ accepted x) a
accepted-itself (accepted x) = accepts refl
accepted-itself (refused r) = no-refused
accepted-itself (faulty l) = no-faulty

pub no-fault : (l : List FaultRecord) → Accepts (λ x. l ≡ []) (unless_faulty l)
no-fault [] = accepts refl
no-fault (f ∷ l) = no-faulty

rewriting-parts : (bytes : List ℕ) (lent : ℕ) → Accepts (Rewriting bytes lent) (rewrite_answer bytes lent)
unfolding rewrite_answer
rewriting-parts bytes lent =
    accepts-after _ (accepted-itself (input bytes)) (λ r e.
    accepts-after _ (accepted-itself (clockings 0 r.sheet.nodes)) (λ ns f.
    accepts-after _ (no-fault (first_faults r ns)) (λ _ h.
    accepts-after _ (accepts-must (within_limits (names_out r.names r.sheet ns) (sheet_out r.names r.sheet ns)) Refusal.Large) (λ _ w.
    accepts-after _ (accepts-must (leb (length (written (names_out r.names r.sheet ns) (sheet_out r.names r.sheet ns))) lent) _) (λ _ l.
    accepts (record { source = r; reading = e; nodes = ns; clocks = f; no-faults = h; within = w; writing = refl; room = leb-true _ lent l }))))))

pub rewriting : (bytes : List ℕ) (lent : ℕ) (out : List ℕ) → rewrite_answer bytes lent ≡ accepted out → Rewriting bytes lent out
rewriting bytes lent out e = is-accepted (rewrite_answer bytes lent) out e (rewriting-parts bytes lent)

-- the sheet of an accepted rewriting is the only tree that the format can say with its bytes
pub out_once : (bytes : List ℕ) → Bytes bytes → (lent : ℕ) (out : List ℕ) (t : Rewriting bytes lent out) (names : List Letters) (s : Sheet) → ShapedSheet s → SizedSheet names s → written names s ≡ out
    → (names ≡ names_out t.source.names t.source.sheet t.nodes) × (s ≡ sheet_out t.source.names t.source.sheet t.nodes)
out_once bytes h lent out t names s a b q =
    let o = out-shaped bytes h t.source t.reading t.nodes t.clocks t.within in
    written_once names _ s _ a b o.0 o.1 (q ∙ sym t.writing)
