-- What the proofs of several functions use.
pub mod Numbers
pub mod Filling
