-- What the proofs of several functions use, and what follows from `read`'s contract.
pub mod Laws
pub mod Nodes
pub mod Consequences
