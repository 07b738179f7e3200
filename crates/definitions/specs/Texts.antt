-- "Texts are the Rust's bytes"; and what the program `clocks` prints.
use Rattle.std.specs.Prelude.{ℕ, List, [], ◌∷◌, ◌++◌, map, length}
use Rattle.definitions.specs.declared.Test.{Test}
use Rattle.definitions.specs.declared.Condition.{Condition}
use Rattle.definitions.specs.Lists.{choose, join, numbered, Letters, bytes, decimal}
use Rattle.definitions.specs.Clock.{Clock, base, ◌↓◌, conditions}
use Rattle.definitions.specs.InferClocks.{Fault, left_elsewhere, used_elsewhere, when_elsewhere, clock_name_elsewhere, undeclared, no_default, no_output_default, not_single_call, pre_untyped, fault_number, NodeFault}

-- letters between, before each item but the first
unfoldable pub separated : Letters → List Letters → Letters
separated by [] = []
separated by (l ∷ []) = l
separated by (l ∷ m ∷ ls) = l ++ (by ++ separated by (m ∷ ls))

-- what a condition's name stands behind, in a text
abbrev pub when_text : Test → Letters
when_text Test.On = bytes "when "
when_text Test.Not = bytes "when not "

-- what a condition's name stands before, in the listing: "+ on, - not"
abbrev pub test_sign : Test → Letters
test_sign Test.On = bytes "+"
test_sign Test.Not = bytes "-"

module _ (letters : ℕ → Letters) where
  -- a name between backquotes
  abbrev pub quoted : ℕ → Letters
  quoted x = 96 ∷ (letters x ++ (96 ∷ []))

  -- "when c", "when not c"
  abbrev pub condition_text : Condition → Letters
  condition_text k = when_text k.test ++ letters k.name

  -- a clock in a text
  unfoldable pub clock_text : Clock → Letters
  unfolding bytes conditions separated
  clock_text base = bytes "the base clock"
  clock_text (c ↓ k) = bytes "clock `" ++ (separated (bytes " ") (map condition_text (conditions (c ↓ k))) ++ bytes "`")

  -- the text of a fault
  unfoldable pub fault_text : Fault → Letters
  unfolding bytes clock_text
  fault_text (left_elsewhere x c d port) =
      quoted x ++ (bytes " is on " ++ (clock_text c ++ (bytes " but its defining equation runs on " ++ (clock_text d
      ++ choose port (bytes " — inputs and outputs are always base-clocked; use merge(...) to bring the stream back up") []))))
  fault_text (used_elsewhere x c d) =
      quoted x ++ (bytes " is on " ++ (clock_text c ++ (bytes " but is used here on " ++ (clock_text d
      ++ bytes " — sample it with `when` or join it with `merge` first"))))
  fault_text (when_elsewhere k c) =
      bytes "`" ++ (condition_text k ++ (bytes "` produces a sampled stream, but this position expects " ++ (clock_text c
      ++ bytes " — every operand of an operator must be on the same clock")))
  fault_text (clock_name_elsewhere x c d) =
      bytes "clock variable " ++ (quoted x ++ (bytes " is on " ++ (clock_text c ++ (bytes " but samples a stream on " ++ clock_text d))))
  fault_text (undeclared x) = quoted x ++ bytes " is not declared"
  fault_text (no_default x) = bytes "no default value for the type of " ++ quoted x
  fault_text (no_output_default x f) = bytes "no default value for output " ++ (quoted x ++ (bytes " of " ++ quoted f))
  fault_text not_single_call = bytes "a clocked equation with several outputs must be a single call"
  fault_text pre_untyped = bytes "cannot determine the type of a clocked `pre` operand"

  -- a clock in the listing: "+ on, - not"
  unfoldable pub clock_key : Clock → Letters
  unfolding bytes
  clock_key base = bytes "base"
  clock_key (c ↓ k) = clock_key c ++ (bytes "/" ++ (letters k.name ++ test_sign k.test))

  -- "prints name, equations, passes, chains; each equation and its clock .. the chains"
  unfoldable pub listing : ℕ → ℕ → List Clock → List Clock → Letters
  unfolding bytes decimal clock_key
  listing name passes equations chains =
      letters name ++ (bytes " " ++ (decimal (length equations) ++ (bytes " " ++ (decimal passes ++ (bytes " " ++ (decimal (length chains) ++ (bytes "\n"
      ++ (join (numbered (λ i c. decimal i ++ (bytes " " ++ (clock_key c ++ bytes "\n"))) 0 equations)
      ++ join (map (λ c. bytes "chain " ++ (clock_key c ++ bytes "\n")) chains)))))))))

  -- a fault of node i in a line of its own: `fault NODE FAULT EQUATION TEXT`
  unfoldable pub fault_line : ℕ → NodeFault → Letters
  unfolding bytes decimal fault_text
  fault_line i f =
      bytes "fault " ++ (decimal i ++ (bytes " " ++ (decimal (fault_number f.fault) ++ (bytes " " ++ (decimal f.equation ++ (bytes " "
      ++ (fault_text f.fault ++ bytes "\n")))))))
