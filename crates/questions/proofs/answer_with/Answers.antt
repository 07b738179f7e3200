-- `questions::answer_with` meets its contract: the tables have as many words as is said. Assumes nothing.
use Prim.Native.Nat.{ℕ}
use lib.ListN.{length-replicate}
use Rattle.questions.proofs.Tables.{rooms-of}
use Rattle.questions.proofs.answer_with.Goals as goal

pub returns : goal.returns
returns g c = λ bytes i h r. record {
  names = _;
  source = _;
  before = _;
  after = _;
  read = h;
  room = rooms-of _ (length-replicate {A = ℕ} _ 0) (length-replicate {A = ℕ} _ 0) (length-replicate {A = ℕ} _ 0) (length-replicate {A = ℕ} _ 0) (length-replicate {A = ℕ} _ 0) r;
  called = c.answer.ensures;
}
