-- What a refusal is told by: its number and place, and the reason.
use Rattle.std.specs.Prelude.{◌++◌}
use Rattle.definitions.specs.declared.Refusal.{Refusal}
use Rattle.definitions.specs.Lists.{Letters, bytes, decimal}
use Rattle.definitions.specs.Refusals.{number, place}

-- "A refusal is its number and place": `refused N PLACE`
abbrev pub refused : Refusal → Letters
refused r = bytes "refused " ++ (decimal (number r) ++ (bytes " " ++ decimal (place r)))

-- What a refusal means and what to do. Above each is the sentence that it tells.
abbrev pub reason_of : Refusal → Letters
-- "The input has fewer than 12 bytes."
reason_of Refusal.Short = bytes "the input has fewer than 12 bytes: hand in a whole sheet"
-- "A size is outside its limit; the place is the size, 0 to 2." "M 1,024"; "L 16,384; T 2 to 4,096"
reason_of (Refusal.Size p) =
    bytes "a size is outside its limit (place 0: 1,024 names, 1: 16,384 letters, 2: 2 to 4,096 tokens): split the sheet, or make one of a text with tools/sheet read"
-- "The length is not 12 + M + L + 5 × T."
reason_of Refusal.Length = bytes "the length is not 12 + names + letters + 5 x tokens: hand in the whole sheet and nothing more"
-- "A name is ill formed, repeats an earlier one, or the lengths don't sum to L, tested first; the place is the name, for the sum M."
reason_of (Refusal.Name p) =
    bytes "this name, counted from 0, repeats an earlier one or is not 1 to 32 letters, digits and _, no digit first; past the last name: the lengths do not sum to the letters"
-- "A token is not allowed there, its value is out of range, the tokens end early (place T) or go on; the place is the token."
reason_of (Refusal.Token p) =
    bytes "this token, counted from 0, is not allowed there or its value is out of range; past the last token: the tokens end early"
-- "A count, array length or depth is outside its limit; one reading meets 5 and 6, the first token decides, 5 before 6; place as in 5."
reason_of (Refusal.Limit p) =
    bytes "at this token, counted from 0, a count, array length or depth is outside its limit: rewrite --help lists the limits"
-- "A type reaches itself through fields, targets or elements; the place is the first such definition."
reason_of (Refusal.Cycle p) = bytes "this type, counted from 0, reaches itself through fields, targets or elements: break the circle"
-- "The node asked for is past the last, or, tested after 9, the fault."
reason_of Refusal.Missing =
    bytes "there is no such node, or the node has no such fault: both are counted from 0; inspect lists the nodes, clocks and rewrite the faults"
-- "A clock of more than eight conditions is formed, in any pass or check of a node that uses clocks; the place is the first such node."
reason_of (Refusal.Deep p) =
    bytes "in this node, counted from 0, a clock comes to more than eight conditions: sample it by fewer"
-- "Some node has a fault." "Under 10 only, the lent fault list gets each faulty node's first fault"
reason_of (Refusal.Faulty n) =
    bytes "some node has a fault: mend the first fault of each faulty node, listed below, and rewrite again"
-- "The output would pass a limit." "Output: 8,192 tokens, same M and L, nothing else."
reason_of Refusal.Large =
    bytes "the rewritten sheet would pass a limit (1,024 names, 16,384 letters, 8,192 tokens): split the sheet"
-- "The caller's bytes are too few; the place is the number needed."
reason_of (Refusal.Lent n) = bytes "the bytes lent are too few: lend as many as the place says"

-- the number and place with the reason, in a line of its own
abbrev pub reason_line : Refusal → Letters
reason_line r = refused r ++ (bytes ": " ++ (reason_of r ++ bytes "\n"))
