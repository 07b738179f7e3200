use mathlib.Core.Path.{sym, ◌∙◌}
use Rattle.grammar.proofs.Laws.{tokens-length}
use Rattle.grammar.proofs.Parts.{sheet-ends, sheet-goes-on}
use Rattle.grammar.proofs.read_sheet.Goals as goal

pub returns-then-end-source : goal.returns-then-end-source
returns-then-end-source c = let s = c.args.source.now in sheet-ends _ _ _ _ c.read_types.ensures _ c.in_ok-nodes.was _ c.read_nodes.ensures _ c.in_ok-end.was (c.if-end-source.true ∙ sym (tokens-length s.tags.now s.values.now s.same_length))

pub returns-else-end-source : goal.returns-else-end-source
returns-else-end-source c = let s = c.args.source.now in sheet-goes-on _ _ _ _ c.read_types.ensures _ c.in_ok-nodes.was _ c.read_nodes.ensures _ c.in_ok-end.was (λ e. c.if-end-source.false (e ∙ tokens-length s.tags.now s.values.now s.same_length))
