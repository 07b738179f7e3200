-- What the proofs of several functions use, here and in other crates.
pub mod Laws
pub mod Left
pub mod Size
pub mod Only
pub mod Flatten
pub mod Walk
