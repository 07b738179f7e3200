-- `new_names::put_stem_ids` meets its contract: the ids so far are put. Assumes nothing.
use Prim.Native.Nat.{ℕ}
use Rattle.definitions.specs.Output.{id_of}
use Rattle.spelling.specs.Stems.{stem_of}
use Rattle.spelling.specs.Table.{names_of}
use Rattle.new_names.specs.Names.{numbered_name}
use Rattle.new_names.proofs.Added.{filled_none, filled_more}
use Rattle.new_names.proofs.put_stem_ids.Goals as goal

pub loop-j-init : goal.loop-j-init
loop-j-init c = filled_none (λ (i : ℕ). id_of (names_of c.args.table.now) (numbered_name (stem_of c.args.stem) c.args.numbers.now i)) _

pub loop-j-preserved : goal.loop-j-preserved
loop-j-preserved c = filled_more (λ (i : ℕ). id_of (names_of c.args.table.now) (numbered_name (stem_of c.args.stem) c.args.numbers.now i)) _ c.loop-j.j _ _ c.id_of.ensures c.loop-j.invariant
