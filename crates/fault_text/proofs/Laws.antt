-- First faults put in lines, node after node, and the lines given. Assumes nothing.
use Prim.Native.Nat.{ℕ, ◌+◌, ◌*◌, ◌≤◌, ◌<◌}
use mathlib.Core.Path.{◌≡◌, refl, sym, ap, ap₂, ◌∙◌, subst}
use mathlib.Core.List.{List, [], ◌∷◌}
use mathlib.Core.Option.{Option}
use native.Mathlib.Omega.{arith}
use lib.ListN.{length, take, drop, get_elem?}
use Rattle.std.proofs.Common.{Result, Ok, Err}
use Rattle.definitions.specs.declared.Refusal.{Refusal}
use Rattle.definitions.specs.Lists.{Letters}
use Rattle.definitions.specs.InferClocks.{NodeFault}
use Rattle.definitions.specs.Refusals.{accepted, refused}
use Rattle.definitions.specs.Output.{letters_of, ClockedNode, node_faults}
use Rattle.definitions.specs.Texts.{fault_line}
use Rattle.definitions.specs.Answer.{Input, clockings, first_line, first_lines}
use Rattle.findings.specs.declared.Fault as struct
use Rattle.findings.specs.Value.{fault_of}
use Rattle.spelling.specs.Places.{letters_at}
use Rattle.spelling.specs.Writing.{Put}
use Rattle.spelling.specs.Written.{Wrote}
use Rattle.spelling.specs.declared.text_writer.TextWriter.{TextWriter}
use Rattle.spelling.proofs.Writing.{over-front, put-over, put-measure}
use Rattle.spelling.proofs.Writers.{wrote_none, wrote_as}
use Rattle.infer_clocks.proofs.Laws.{Ahead}
use Rattle.lines.proofs.Listing.{put-numbered}
use Rattle.lines.proofs.TextsLengths.{name-length, line-length, shallow-of}
use Rattle.stateless.proofs.Nodes.{clockings-form, node-here, all-before}
use Rattle.first_faults.specs.Faults.{fault_in}
use Rattle.first_faults.proofs.Records.{nodes-end}
use Rattle.query.specs.Listed.{TextStands}
use Rattle.fault_text.specs.Lines.{lines_text, line_of, LinesStand}

-- ---- the line of a fault that was found is no longer than names let it be
pub line-short : (starts letters : List ℕ) (i e : ℕ) (f : struct.Fault) (at : ℕ) {w w₁ : TextWriter} → length letters ≤ 16384
    → Wrote (fault_line (letters_at starts letters) i (record { equation = e; fault = fault_of f })) w w₁ → at ≡ w₁.at → at ≤ w.at + 278998
line-short starts letters i e f at h u g =
    omega (arith, g, u.next, line-length (letters_at starts letters) (length letters) (name-length starts letters) i (record { equation = e; fault = fault_of f }) (shallow-of f))

-- ---- node after node
line_first : (letters : ℕ → Letters) (i : ℕ) (fs : List NodeFault) → line_of letters i (get_elem? fs 0) ≡ first_line letters i fs
line_first letters i [] = refl
line_first letters i (f ∷ fs) = refl

pub lines_start : (r : Input) (ns : List ClockedNode) (w : TextWriter) → Wrote (first_lines r (take 0 ns)) w w
unfolding first_lines
lines_start r ns w = wrote_none w

pub lines_step : (r : Input) (ns : List ClockedNode) → clockings 0 r.sheet.nodes ≡ accepted ns → (letters : ℕ → Letters) → letters ≡ letters_of r.names → (k : ℕ) (o : Option NodeFault) {w w₁ w₂ : TextWriter}
    → k < length r.sheet.nodes → o ≡ fault_in r (get_elem? ns k) 0 → Wrote (first_lines r (take k ns)) w w₁ → Wrote (line_of letters k o) w₁ w₂ → Wrote (first_lines r (take (k + 1) ns)) w w₂
unfolding first_lines
lines_step r ns clocks letters named k o {w} {w₁} {w₂} few told so_far line =
    let u = node-here (clockings-form 0 r.sheet.nodes ns clocks) k few in
    let faults = node_faults r.names r.sheet u.clocked in
    let e : line_of letters k o ≡ first_line (letters_of r.names) k faults =
    ap₂ (λ (f : ℕ → Letters) (x : Option NodeFault). line_of f k x) named (told ∙ ap (λ (x : Option ClockedNode). fault_in r x 0) u.here) ∙ line_first (letters_of r.names) k faults in
    subst (λ (x : List ClockedNode). Wrote (first_lines r x) w w₂) (sym u.front)
    (put-numbered (λ i n. first_line (letters_of r.names) i (node_faults r.names r.sheet n)) (take k ns) k u.clocked (sym u.before) so_far (wrote_as e line))

-- all nodes: the text can be measured
pub lines_end : (r : Input) (k at : ℕ) (lent now : List ℕ) → Ahead k (drop k r.sheet.nodes) (clockings 0 r.sheet.nodes) → length r.sheet.nodes ≤ k → k ≤ 16 → at ≤ 278998 * k
    → ((ns : List ClockedNode) → clockings 0 r.sheet.nodes ≡ accepted ns → Put (first_lines r (take k ns)) 0 lent at now) → LinesStand r lent now (Ok at)
unfolding LinesStand
lines_end r k at lent now ahead past few low put =
    let n = nodes-end r k ahead past in
    let e = all-before (clockings-form 0 r.sheet.nodes n.0 n.1) k past in
    let p : Put (first_lines r n.0) 0 lent at now = rw e at (put n.0 n.1) in
    (n.0, n.1, p, omega (arith, p.place, low, few))

pub lines-deep : (r : Input) (k : ℕ) (lent now : List ℕ) → clockings 0 r.sheet.nodes ≡ refused (Refusal.Deep k) → LinesStand r lent now (Err (Refusal.Deep k))
unfolding LinesStand
lines-deep r k lent now h = h

-- the bytes by another name, as those behind a reference when what held it ends
pub lines-held : (r : Input) (lent now held : List ℕ) (a : Result ℕ Refusal) → held ≡ now → LinesStand r lent now a → LinesStand r lent held a
lines-held r lent now held a e h = rw e h

-- ---- the text that was put, and where it ends
pub lines-text : (r : Input) (lent now : List ℕ) (a : Result ℕ Refusal) → LinesStand r lent now a → TextStands (lines_text r) lent now a
unfolding LinesStand TextStands
lines-text r lent now (Err e) h = rw h refl
lines-text r lent now (Ok n) h = (first_lines r h.0, rw h.1 refl, record { long = put-measure h.3 h.2; bytes = put-over h.2 ∙ sym (over-front (first_lines r h.0) lent) })
