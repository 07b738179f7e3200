-- `query::fault_list::FaultList::push` meets its contract. Assumes nothing.
use mathlib.Core.Path.{refl, ap, ◌∙◌}
use lib.ListN.{set}
use Prim.Native.Nat.{ℕ}
use Rattle.query.proofs.fault_list.FaultList.push.Goals as goal

pub returns : goal.returns
returns c =
    record {
      same = refl;
      next = c.saturating_add-self.ensures;
      put = c.put_at.ensures ∙ ap (λ (j : ℕ). set c.args.self.now.records.now c.args.self.now.count (record { node = c.args.node; fault = j; equation = c.args.found.equation })) c.fault_number.ensures;
    }
