-- The lines of a sheet's first faults, one behind another.
use Rattle.std.specs.Prelude.{ℕ, ◌≤◌, ◌≡◌, List, [], length, Result, Ok, Err}
use Rattle.std.proofs.Math.Option.{Option, none, some}
use Rattle.definitions.specs.declared.Refusal.{Refusal}
use Rattle.definitions.specs.Lists.{Letters}
use Rattle.definitions.specs.InferClocks.{NodeFault}
use Rattle.definitions.specs.Refusals.{Answer, accepted, refused, ◌>>=◌}
use Rattle.definitions.specs.Output.{ClockedNode}
use Rattle.definitions.specs.Texts.{fault_line}
use Rattle.definitions.specs.Answer.{Input, clockings, first_lines}
use Rattle.spelling.specs.Writing.{Put, farthest}
use Rattle.lines.specs.Lending.{lent_text}

-- the lines of a sheet that was read: `fault_lines_answer` behind refusals 1 to 7
abbrev pub fault_lines_of : Input → ℕ → Answer Letters
fault_lines_of r lent = clockings 0 r.sheet.nodes >>= λ ns. lent_text (first_lines r ns) lent

-- the line of a fault of node i, if there is one
abbrev pub line_of : (ℕ → Letters) → ℕ → Option NodeFault → Letters
line_of letters i none = []
line_of letters i (some f) = fault_line letters i f

-- the lines, or 9
abbrev pub lines_text : Input → Answer Letters
lines_text r = clockings 0 r.sheet.nodes >>= λ ns. accepted (first_lines r ns)

-- refused, as forming the clocks is: at the first node in which one is too deep; or the lines were put at the front, and where they end
unfoldable pub LinesStand : Input → List ℕ → List ℕ → Result ℕ Refusal → Type 0
LinesStand r lent now (Err e) = clockings 0 r.sheet.nodes ≡ refused e
LinesStand r lent now (Ok n) = (ns : List ClockedNode) × (clockings 0 r.sheet.nodes ≡ accepted ns) × Put (first_lines r ns) 0 lent n now × (length (first_lines r ns) ≤ farthest)
