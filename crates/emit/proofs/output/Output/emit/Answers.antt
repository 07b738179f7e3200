-- `emit::Output::emit` meets its contract: a token is its tag and its value. Assumes nothing.
use mathlib.Core.Path.{ap, ◌∙◌}
use Prim.Native.Nat.{ℕ}
use Rattle.emit.proofs.Laws.{emit-one}
use Rattle.emit.proofs.output.Output.emit.Goals as goal

pub returns : goal.returns
returns c = c.put.ensures ∙ emit-one _ _ _ _ (ap (λ (x : ℕ × ℕ). x.0) c.code_of-tag.ensures) (ap (λ (x : ℕ × ℕ). x.1) c.code_of-tag.ensures)
