-- What other crates cite.
-- What this crate's proofs share.
-- What the proofs of several functions use, and those of other crates.
pub mod Back
pub mod Outside
pub mod ReaderLaws
pub mod Laws
pub mod Shapes
pub mod Longer
pub mod Parts
pub mod Got
