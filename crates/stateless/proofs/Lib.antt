-- What the proofs of several functions use, and those of other crates.
-- Where rewriting stops, and that this and its needs do not depend on the id of `condact`.
-- What each step keeps; what rewriting yields and what it needs, by the ids of new names.
-- A sheet's nodes one by one; a sheet none of whose nodes uses clocks.
pub mod Laws
pub mod Rewrite
pub mod Stops
pub mod Condact
pub mod Ungated
pub mod Kept
pub mod Growth
pub mod Yields
pub mod Output
pub mod Nodes
pub mod Answers
pub mod Unclocked
