-- `first_faults::plan_of` meets its contract: the index has what planning asks for. Assumes nothing.
use native.Mathlib.Omega.{arith}
use Rattle.first_faults.proofs.Laws.{by-condact}
use Rattle.first_faults.proofs.plan_of.Goals as goal

pub returns : goal.returns
returns c = λ i node q cs h d s many typed planned few. by-condact _ _ _ _ _ _ _ _ _ _ _ _ _ _ _ _ _ h.condact (c.plan_laid.ensures.plans_node i.sheet.types i.sheet.nodes node cs (record { end = q; laid = d; standing = h.nodes; typed = h.types; sited = s; many = many }) typed (omega (arith, few)) planned)
