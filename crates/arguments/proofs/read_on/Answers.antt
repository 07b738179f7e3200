use Rattle.std.proofs.Common.{rules}
use Rattle.arguments.proofs.Filling.{read_behind, start_stands}
use Rattle.arguments.proofs.read_on.Goals as goal

pub returns-in_err-m-clause-start_kept : goal.returns-in_err-m-clause-start_kept
returns-in_err-m-clause-start_kept g c = start_stands _ c.args.start.now _ _ _ c.copy_from_slice.ensures.after

pub returns-clause-start_kept : goal.returns-clause-start_kept
returns-clause-start_kept g c = start_stands _ c.args.start.now _ _ _ c.copy_from_slice.ensures.after

pub returns-clause-consumed : goal.returns-clause-consumed
returns-clause-consumed g c = read_behind _ _ _ _ _ _ _ (search rules) c.in_ok-m.ensures.prefix_len.0 c.in_ok-m.ensures.consumed
