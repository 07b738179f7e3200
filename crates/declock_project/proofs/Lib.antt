-- The nodes one by one, and what rewriting a sheet answers.
pub mod Walk
pub mod Nodes
pub mod Outcomes
