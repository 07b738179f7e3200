-- What the proofs of several functions use, and those of other crates.
pub mod Growth
pub mod Laws
pub mod Closing
pub mod Walk
pub mod Sites
pub mod Calls
