-- `declock_project::write_output` meets its contract. Assumes nothing.
use Rattle.spelling.specs.Table.{names_of}
use Rattle.declock_project.proofs.Outcomes.{full-given, long-given, output-given}
use Rattle.declock_project.proofs.write_output.Goals as goal
use Rattle.declock_project.proofs.write_output.Goals.{then-table-via-then-table, then-table-via-else-table+then-tokens}

pub returns-then-table : goal.returns-then-table
returns-then-table c = λ bytes r ns list o n f z h e t v. elim c.then-table.branch [
  | then-table-via-then-table w ↦ full-given bytes r z.reading c.args.out.now list ns z.clocks z.none-faulty c.args.sheet.now.names h w.if-table.true
  | then-table-via-else-table+then-tokens w ↦
      long-given bytes r z.reading c.args.out.now list ns z.clocks z.none-faulty c.args.sheet.now.names h w.if-table.false o c.args.sheet.now.tokens n f (e w.if-table.false) w.if-tokens.true
]

pub returns : goal.returns
unfolding names_of
returns c = λ bytes r ns list o n f z h e t v.
    let free = c.if-table.false in
    output-given bytes r z.reading c.args.out.now list ns z.clocks z.none-faulty c.args.sheet.now.names h free o c.args.sheet.now.tokens n f (e free) t v c.if-tokens.false _ c.min-n.ensures _ _ c.write.ensures.value c.write.ensures.out_after
