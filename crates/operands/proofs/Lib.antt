-- What the proofs of several functions use, and those of other crates.
pub mod Deeper
pub mod Forms
pub mod Laws
pub mod Roles
pub mod Apart
pub mod Leaves
