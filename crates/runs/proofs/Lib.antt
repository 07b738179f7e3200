-- The proofs of runs, in reading order. Small facts: on tests and lists, on ticks, on the parts of an expression.
pub mod Facts
pub mod Ticks
pub mod Parts
-- What a rewriting may do to its state.
pub mod Growth
-- What checking and inference leave of a node without faults; the order of chains.
pub mod Checked
pub mod Inferred
pub mod Conditions
pub mod Order
-- The main induction: a rewritten expression has the expression's values.
pub mod Expressions
-- Equations: what holds in lists, what is settled, several left names, and each equation from its rewriting.
pub mod Holding
pub mod Settling
pub mod SettledSteps
pub mod Several
pub mod Equations
-- A node: what its new equations make of flags and holds, what is kept, the declared names; the theorem for one node.
pub mod Flags
pub mod KeptRun
pub mod Declared
pub mod Node
-- A plain node of a sheet: ids and letters, rewriting under other ids, calls in two sheets.
pub mod Names
pub mod Alike
pub mod SameCallees
pub mod PlainNode
-- A sheet: what accepting says, the output's names, the theorem `demand-three`.
pub mod Accepted
pub mod NamesApart
pub mod Sheet
-- Witnesses: K1 and its run, K4 and K11, wrong rewritings refuted.
pub mod Small
pub mod K1
pub mod K1Kept
pub mod NotPlain
pub mod Refuted
pub mod ResetRefuted
