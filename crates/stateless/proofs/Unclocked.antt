-- A sheet none of whose nodes uses clocks is its own rewriting, byte for byte: `unchanged-fits`, `unchanged-lent`.
-- Assumes nothing.
use Prim.Native.Nat.{ℕ, suc, ◌+◌, ◌≤◌, ◌<◌}
use mathlib.Core.Path.{◌≡◌, refl, ap, ap₂, ◌∙◌}
use mathlib.Core.Bool.{true, false, ◌&&◌}
use mathlib.Core.List.{List, [], ◌∷◌, ◌++◌, map}
use native.Mathlib.Omega.{arith}
use lib.ListN.{length}
use borrow.Author.Tests.{le-leb}
use Rattle.std.proofs.lemmas.Bool.{or_parts}
use Rattle.definitions.specs.declared.Refusal.{Refusal}
use Rattle.definitions.specs.Lists.{any, join, Letters}
use Rattle.definitions.specs.Bytes.{most_names, most_letters}
use Rattle.definitions.specs.Tree.{Node, Sheet}
use Rattle.definitions.specs.Refusals.{accepted, refused}
use Rattle.definitions.specs.InferClocks.{formed, clocking, uses_clocks}
use Rattle.definitions.specs.Output.{ClockedNode, sheet_tokens, written, most_tokens_out, within_limits, output_node, output_names, names_out, sheet_out}
use Rattle.definitions.specs.Answer.{Input, input, clockings, first_of, rewrite_answer}
use Rattle.shapes.specs.Shape.{Bytes}
use Rattle.shapes.proofs.Source.{read-facts}
use Rattle.shapes.proofs.Clockless.{clockless, output-as-came, no-node-faults}
use Rattle.stateless.specs.Sheets.{first_faults_from}
use Rattle.stateless.proofs.Nodes.{faults-end, faults-step, names-out, names_same}
use Rattle.stateless.proofs.Answers.{all_names, out_sheet, rewrite-lent, rewrite-accepted}

-- a node with its clocks, of which it uses none
record Calm (n : ClockedNode) : Type 0 where
  pub forms : clocking n.node ≡ formed n.clocking
  pub unused : uses_clocks n.node ≡ false

data Calms : List Node → List ClockedNode → Type 0 where
  calm-end : Calms [] []
  calm_more : {nodes : List Node} {ns : List ClockedNode} (n : ClockedNode) → Calm n → Calms nodes ns → Calms (n.node ∷ nodes) (n ∷ ns)

-- every such node has its clocks
clocked-calm : (i : ℕ) (nodes : List Node) → any uses_clocks nodes ≡ false → (ns : List ClockedNode) × (clockings i nodes ≡ accepted ns) × Calms nodes ns
unfolding clockings
clocked-calm i [] h = ([], refl, calm-end)
clocked-calm i (n ∷ nodes) h =
    let u = (or_parts (uses_clocks n) (any uses_clocks nodes) h).0 in
    let k = clockless n u in
    let rest = clocked-calm (suc i) nodes (or_parts (uses_clocks n) (any uses_clocks nodes) h).1 in
    let this : ClockedNode = record { node = n; clocking = k.0 } in
    (this ∷ rest.0, rw (k.1.clocks, clockings, rest.1), calm_more this (record { forms = k.1.clocks; unused = u }) rest.2)

module _ (names : List Letters) (sheet : Sheet) where
  -- they add no name, and are written as they came
  calm-names : (all : List Letters) {nodes : List Node} {ns : List ClockedNode} → Calms nodes ns → output_names names sheet all ns ≡ all
  unfolding output_names
  calm-names all calm-end = refl
  calm-names all (calm_more {ns} n c r) = ap (λ (l : List Letters). output_names names sheet l ns) (names_same names sheet all n c.unused) ∙ calm-names all r

  calm-nodes : (all : List Letters) {nodes : List Node} {ns : List ClockedNode} → Calms nodes ns → map (output_node names sheet all) ns ≡ nodes
  calm-nodes all calm-end = refl
  calm-nodes all (calm_more n c r) = ap₂ (λ (m : Node) (l : List Node). m ∷ l) (output-as-came names sheet all n c.unused) (calm-nodes all r)

-- none has a fault
calm-faults : (r : Input) (i : ℕ) {nodes : List Node} {ns : List ClockedNode} → Calms nodes ns → first_faults_from r i ns ≡ []
calm-faults r i calm-end = faults-end r i
calm-faults r i (calm_more {ns} n c rest) =
    faults-step r i n ns
    ∙ (ap (λ l. first_of i l ++ first_faults_from r (i + 1) ns) (no-node-faults r.names r.sheet n c.unused c.forms) ∙ calm-faults r (i + 1) rest)

module _ (bytes : List ℕ) (are-bytes : Bytes bytes) (r : Input) (reading : input bytes ≡ accepted r) (unused : any uses_clocks r.sheet.nodes ≡ false) where
  calm : (ns : List ClockedNode) × (clockings 0 r.sheet.nodes ≡ accepted ns) × Calms r.sheet.nodes ns
  calm = clocked-calm 0 r.sheet.nodes unused

  same_names : all_names r calm.0 ≡ r.names
  same_names = names-out r.names r.sheet calm.0 ∙ calm-names r.names r.sheet r.names calm.2

  same-sheet : out_sheet r calm.0 ≡ r.sheet
  unfolding sheet_out
  same-sheet = ap (λ (l : List Node). record { types = r.sheet.types; nodes = l }) (calm-nodes r.names r.sheet (names_out r.names r.sheet calm.0) calm.2)

  same_bytes : written (all_names r calm.0) (out_sheet r calm.0) ≡ bytes
  same_bytes = ap₂ written same_names same-sheet ∙ (read-facts bytes are-bytes r reading).back

  fits : within_limits (all_names r calm.0) (out_sheet r calm.0) ≡ true
  unfolding within_limits
  fits =
      let f = read-facts bytes are-bytes r reading in
      ap₂ within_limits same_names same-sheet
      ∙ ap₂ ◌&&◌ (ap₂ ◌&&◌ (le-leb (length r.names) most_names f.few-names) (le-leb (length (join r.names)) most_letters f.few-letters)) (le-leb (length (sheet_tokens r.sheet)) most_tokens_out (omega (arith, f.few-tokens)))

  -- THE LAW: the sheet itself, or so many bytes are needed
  pub unchanged-fits : (lent : ℕ) → length bytes ≤ lent → rewrite_answer bytes lent ≡ accepted bytes
  unchanged-fits lent h =
      rewrite-accepted bytes lent r reading calm.0 calm.1 (calm-faults r 0 calm.2) fits (omega (arith, ap length same_bytes)) ∙ ap accepted same_bytes

  pub unchanged-lent : (lent : ℕ) → lent < length bytes → rewrite_answer bytes lent ≡ refused (Refusal.Lent (length bytes))
  unchanged-lent lent h =
      rewrite-lent bytes lent r reading calm.0 calm.1 (calm-faults r 0 calm.2) fits (omega (arith, ap length same_bytes)) ∙ ap (λ (b : List ℕ). refused (Refusal.Lent (length b))) same_bytes
