-- `questions::answer_read` meets its contract. Assumes nothing.
use Rattle.spelling.proofs.Places.{names-fit}
use Rattle.questions.proofs.Front.{standing, cut-names}
use Rattle.questions.proofs.answer_read.Goals as goal

pub invariant_of-names : goal.invariant_of-names
invariant_of-names g c = let z = names-fit c.args.read.sheet.accepted _ _ c.lengths.ensures.value c.letters.ensures.value in
    record { summed = z.0; few = z.1; short = z.2 }

pub returns : goal.returns
returns g c = λ i z.
    let a = c.args.read.sheet.accepted in
    c.answer_standing.ensures _ i (record {
      are-bytes = z.are-bytes;
      reading = z.reading;
      standing = standing a _ i z _ c.starts_of-starts.ensures c.letters.ensures.value;
      lengths = cut-names a _ i z _ _ c.lengths.ensures.value c.letters.ensures.value;
    })
