-- `planned::put_type` meets its contract.
-- Assumes nothing.
use mathlib.Core.Path.{◌≡◌, refl, ◌∙◌, ap}
use Rattle.std.specs.Prelude.{Some}
use Rattle.grammar.specs.Read.{tokens_of}
use Rattle.planned.proofs.HoldsLaws.{found_at, found-basic, found_none, wrote-basic}
use Rattle.planned.proofs.put_type.Goals as goal

pub returns-in-Some-At : goal.returns-in-Some-At
returns-in-Some-At c = λ y g. let f = found_at c.args.source.now.names (tokens_of c.args.source.now) y _ g _ (let i : c.args.found ≡ Some c.in-Some-At.field-0 = c.in-Some-At.is in i ∙ ap Some (rw c.in-Some-At.is at c.in-Some-At.field-0-is)) in c.put_type_at.ensures f.0 y f.1 f.2

pub returns-in-Some-Basic : goal.returns-in-Some-Basic
returns-in-Some-Basic c = λ y g. wrote-basic _ _ _ c.emit.ensures y _ refl (found-basic c.args.source.now.names (tokens_of c.args.source.now) y _ g _ (let i : c.args.found ≡ Some c.in-Some-Basic.field-0 = c.in-Some-Basic.is in i ∙ ap Some (rw c.in-Some-Basic.is at c.in-Some-Basic.field-0-is)))

pub returns-in-None : goal.returns-in-None
returns-in-None c = λ y g. absurd (found_none c.args.source.now.names (tokens_of c.args.source.now) y _ g c.in-None.is)
