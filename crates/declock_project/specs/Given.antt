-- What rewriting a sheet answers, and what the lent bytes and the lent fault list are afterwards, by the definition's answer.
use Rattle.std.specs.Prelude.{ℕ, ◌≡◌, List, [], length, Result, Ok, Err}
use Rattle.definitions.specs.declared.Refusal.{Refusal}
use Rattle.definitions.specs.declared.FaultRecord.{FaultRecord}
use Rattle.definitions.specs.Refusals.{Answer, accepted, refused, faulty, bytes_after, faults_after}
use Rattle.definitions.specs.Bytes.{cut}
use Rattle.definitions.specs.Answer.{Input, input, clockings}
use Rattle.definitions.specs.Output.{ClockedNode}
use Rattle.stateless.specs.Sheets.{first_faults_from}
use Rattle.shapes.specs.Shape.{Bytes}
use Rattle.grammar.specs.declared.source.Source.{Source}
use Rattle.spelling.specs.declared.names.Spelling.{Spelling}
use Rattle.query.specs.Standing.{Standing}

-- the answer: how many bytes were written, or the refusal; under 10 "the count is of all"
abbrev pub rewrite_answered : Answer (List ℕ) → Result ℕ Refusal
rewrite_answered (accepted out) = Ok (length out)
rewrite_answered (refused r) = Err r
rewrite_answered (faulty l) = Err (Refusal.Faulty (length l))

-- a sheet's rewriting was asked for: the answer, and the lent bytes and the lent fault list afterwards
pub record RewriteGiven (v : Answer (List ℕ)) (lent : List ℕ) (list : List FaultRecord) (lent' : List ℕ) (list' : List FaultRecord) (r : Result ℕ Refusal) : Type 0 where
  pub answer : r ≡ rewrite_answered v
  pub bytes : lent' ≡ bytes_after v lent
  pub faults : list' ≡ faults_after v list

-- the sheet r, which these bytes say, has these tokens, and names of these lengths, which the letters that are spelled give
pub record Read (given : List ℕ) (spelling : Spelling) (source : Source) (bytes : List ℕ) (r : Input) : Type 0 where
  pub are-bytes : Bytes bytes
  pub reading : input bytes ≡ accepted r
  pub standing : Standing spelling source r
  pub lengths : r.names ≡ cut given spelling.letters.now

-- the sheet r, which these bytes say, has these clocks, and no node has a fault
pub record Clean (bytes : List ℕ) (r : Input) (ns : List ClockedNode) : Type 0 where
  pub reading : input bytes ≡ accepted r
  pub clocks : clockings 0 r.sheet.nodes ≡ accepted ns
  pub none-faulty : first_faults_from r 0 ns ≡ []
