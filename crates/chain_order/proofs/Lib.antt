-- What the proofs of several functions use, here and in other crates.
pub mod Laws
pub mod Total
pub mod Halves
