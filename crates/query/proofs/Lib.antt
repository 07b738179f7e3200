-- What the proofs of several functions use, here and in other crates.
pub mod Nodes
pub mod Words
pub mod Entries
pub mod Listings
