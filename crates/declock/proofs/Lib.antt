-- What the proofs of several functions use.
pub mod FlagsLaws
pub mod Laws
pub mod Written
pub mod Alike
pub mod DeclockSheetLaws
