-- The theorem at K1's bytes: the run of its rewriting, kept to its clocks, is a run of K1.
use mathlib.Core.Path.{◌≡◌, refl, sym, ap, ◌∙◌, subst}
use mathlib.Core.List.{List, [], ◌∷◌}
use mathlib.Core.Option.{some-injective}
use Prim.Native.Nat.{ℕ}
use lib.Dec.{ltb}
use lib.ListN.{get_elem?}
use Rattle.std.proofs.lemmas.Bool.{ltb-true}
use Rattle.definitions.specs.Lists.{Letters}
use Rattle.definitions.specs.Tree.{Node, Sheet}
use Rattle.definitions.specs.LiteralSheets.{k1}
use Rattle.definitions.specs.Refusals.{accepted}
use Rattle.definitions.specs.Output.{names_out, sheet_out}
use Rattle.definitions.specs.Answer.{Input, input, clockings, first_faults}
use Rattle.shapes.specs.Shape.{Bytes}
use Rattle.shapes.proofs.Accepts.{is-accepted}
use Rattle.shapes.proofs.Source.{read-facts}
use Rattle.runs.specs.Callees.{callees_of}
use Rattle.runs.specs.Run.{SourceRun, Kept}
use Rattle.runs.specs.Demand.{RunsKept, SheetKept}
use Rattle.runs.proofs.Facts.{all_in}
use Rattle.runs.proofs.Accepted.{formings, no-faults}
use Rattle.runs.proofs.Sheet.{sheet-kept}
use Rattle.runs.proofs.Small.{numbers, sheet_of}
use Rattle.runs.proofs.K1.{names, start, source, start_plain, rewritten, all as all_names, names-out, sheet-out, ρ, start-runs}

-- what K1's bytes say
abbrev said : Input
said = record { names = names; sheet = sheet_of (start ∷ []) }

read : input k1 ≡ accepted said
unfolding input k1 names
read = refl

bytes-of-k1 : Bytes k1
unfolding k1
bytes-of-k1 b m = ltb-true b 256 (all_in (λ b. ltb b 256) k1 refl b m)

clocked : clockings 0 (start ∷ []) ≡ accepted (source ∷ [])
unfolding clockings
clocked = refl

kept : SheetKept ℕ said (source ∷ []) (names_out names (sheet_of (start ∷ [])) (source ∷ [])) (sheet_out names (sheet_of (start ∷ [])) (source ∷ []))
unfolding first_faults names
kept = sheet-kept ℕ k1 said (read-facts k1 bytes-of-k1 said read) (source ∷ []) (is-accepted (clockings 0 (start ∷ [])) (source ∷ []) clocked (formings 0 (start ∷ []))) (no-faults said 0 (source ∷ []) refl)

pub start-kept : RunsKept ℕ (callees_of names (sheet_of (start ∷ []))) (callees_of all_names (sheet_of (rewritten ∷ []))) source rewritten
start-kept =
    let d = kept.nodes-kept 0 source refl in
    let same : d.0 ≡ rewritten = some-injective d.0 rewritten (sym d.1 ∙ ap (λ (s : Sheet). get_elem? s.nodes 0) sheet-out) in
    let C = callees_of names (sheet_of (start ∷ [])) in
    subst (λ (l : List Letters). RunsKept ℕ C (callees_of l (sheet_of (rewritten ∷ []))) source rewritten) names-out
    (subst (λ (s : Sheet). RunsKept ℕ C (callees_of (names_out names (sheet_of (start ∷ [])) (source ∷ [])) s) source rewritten) sheet-out
    (subst (λ (m : Node). RunsKept ℕ C (callees_of (names_out names (sheet_of (start ∷ [])) (source ∷ [])) (sheet_out names (sheet_of (start ∷ [])) (source ∷ []))) source m) same (d.2.runs-kept start_plain)))

-- the run of `start-runs` is one of K1
pub start-run-kept : SourceRun numbers (callees_of names (sheet_of (start ∷ []))) source 3 ρ
unfolding RunsKept Kept
start-run-kept = start-kept numbers 3 ρ ρ start-runs (λ x t l d c. refl)
