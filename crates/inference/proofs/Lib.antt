-- What the proofs of several functions use, and those of other crates.
pub mod Low
pub mod NaturalLaws
pub mod Leaf
pub mod Scan
pub mod Looks
pub mod Naming
pub mod Calm
pub mod PassesLaws
