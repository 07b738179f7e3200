-- What the proofs of several functions use.
pub mod Texts
pub mod Laws
