-- `sheet::uses_clocks` meets its contract: the nodes left tell what is answered. Assumes nothing.
use mathlib.Core.Path.{refl}
use Rattle.std.proofs.Common.{rules}
use Rattle.layout.proofs.Walks.{nodes-begin}
use Rattle.sheet.proofs.Nodes.{any-left}
use Rattle.sheet.proofs.uses_clocks.Goals as goal

pub returns : goal.returns
returns c = λ s q g.
    let n = c.nodes.ensures in
    let d = c.any.ensures.ran in
    any-left c.args.source.now _ (λ x b q k. search rules) d.0 c.nodes.result d.3.0 c.any.new.self d.1 d.2 c.any.result _
    (record { rest = s.nodes; end = _; left = nodes-begin n.0 _ _ n.2 n.1 (c.sheet_at.ensures s q g).nodes.items; same = refl })
    d.3.1 d.3.2 d.4 d.5
