-- Proofs, leaves first. Small facts on tests, clocks, letters and lists.
pub mod Facts
pub mod Added
-- Tokens and their tags and values.
pub mod Coded
pub mod TokenWords
-- The written bytes say which sheet it is.
pub mod WrittenBytes
pub mod Written
pub mod Once
-- What the grammar reads has its shape, and its tokens are those that were read.
pub mod Decoded
pub mod Gives
pub mod ReadShape
pub mod Accepts
pub mod ReadBytes
pub mod Source
-- The clocks of a shaped node.
pub mod Formed
pub mod Inference
pub mod ClockNames
-- What rewriting yields; what it makes of shaped trees is shaped.
pub mod Yields
pub mod Defaults
pub mod RewriteShape
-- The output: its names, and that its tree is shaped.
pub mod Names
pub mod OutputShape
pub mod OutputBytes
pub mod Answered
-- Nodes that use no clocks.
pub mod Clockless
