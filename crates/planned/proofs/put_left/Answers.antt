-- `planned::put_left` meets its contract: the count, then the names.
-- Assumes nothing.
use mathlib.Core.Path.{refl}
use mathlib.Core.List.{[], ◌∷◌}
use Rattle.definitions.specs.declared.Token.{Token}
use Rattle.planned.proofs.LeftDefaultsLaws.{names-left-none, names-left-rest, wrote-left}
use Rattle.planned.proofs.put_left.Goals as goal

pub loop-x-preserved : goal.loop-x-preserved
loop-x-preserved c = names-left-rest _ _ _ _ _ _ c.loop-x.invariant c.loop-x-test.true (λ x. Token.Name x ∷ []) (λ x rest. refl) _ (λ h. (c.emit-in-loop-x.ensures, tt))

pub returns : goal.returns
returns c = λ xs s. wrote-left _ xs _ _ _ _ (c.names_in-names.ensures.spanned xs s) s.many c.emit.ensures (names-left-none _ _ _ _ _ _ c.loop-x.invariant c.loop-x-test.false refl)
