-- `questions::as_it_came` meets its contract. Assumes nothing.
use lib.ListN.{length}
use Rattle.stateless.proofs.Unclocked.{unchanged-fits, unchanged-lent}
use Rattle.declock_project.proofs.Outcomes.{put-given}
use Rattle.questions.proofs.as_it_came.Goals as goal

pub returns : goal.returns
returns c = λ i faults z h u.
    put-given _ c.args.out.now faults c.args.sheet.now (unchanged-fits c.args.sheet.now z i h u (length c.args.out.now)) (unchanged-lent c.args.sheet.now z i h u (length c.args.out.now)) _ _ c.write_bytes.ensures.value c.write_bytes.ensures.out_after
