-- What the proofs of several functions use, and those of other crates.
pub mod TypedefsLaws
pub mod Tags
pub mod Owed
pub mod Ends
pub mod Marks
pub mod Laws
pub mod Walks
