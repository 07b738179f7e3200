-- `inference::gives` meets its contract: by the tag, and by the name's word. Assumes nothing.
use Rattle.inference.proofs.Scan.{name-gives, other-gives}
use Rattle.inference.proofs.gives.Goals as goal

pub returns-then-tag-eq-VAR : goal.returns-then-tag-eq-VAR
returns-then-tag-eq-VAR c = name-gives c.args.env.now c.args.tag c.args.value c.if-tag-eq-VAR.true c.is_assigned.ensures

pub returns : goal.returns
returns c = other-gives c.args.env.now c.args.tag c.args.value c.is_sample.result c.if-tag-eq-VAR.false c.is_sample.ensures
