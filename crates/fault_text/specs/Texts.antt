-- The text of a fault, of a sheet that was read.
use Rattle.std.specs.Prelude.{ℕ, List}
use Rattle.std.proofs.Math.Option.{Option, none, some}
use Rattle.definitions.specs.declared.Refusal.{Refusal}
use Rattle.definitions.specs.Lists.{Letters}
use Rattle.definitions.specs.InferClocks.{NodeFault}
use Rattle.definitions.specs.Refusals.{Answer, refused, ◌>>=◌}
use Rattle.definitions.specs.Output.{letters_of, ClockedNode, node_faults}
use Rattle.definitions.specs.Texts.{fault_text}
use Rattle.definitions.specs.Answer.{Input, item_at, node_at}
use Rattle.lines.specs.Lending.{lent_text}

-- the text of a fault, if there is one, else 8
abbrev pub text_in : List Letters → Option NodeFault → ℕ → Answer Letters
text_in names none lent = refused Refusal.Missing
text_in names (some f) lent = lent_text (fault_text (letters_of names) f.fault) lent

-- the text of fault j of a node that was asked for
abbrev pub text_from : Input → Answer ClockedNode → ℕ → ℕ → Answer Letters
text_from r v j lent = v >>= λ n. item_at (node_faults r.names r.sheet n) j >>= λ f. lent_text (fault_text (letters_of r.names) f.fault) lent

-- of node k: `text_answer` behind refusals 1 to 7
abbrev pub text_of : Input → ℕ → ℕ → ℕ → Answer Letters
text_of r k j lent = text_from r (node_at r k) j lent
