-- What the proofs of several functions use, here and in other crates.
pub mod ClockLaws
pub mod FlatLaws
pub mod EnvironmentLaws
pub mod FrontLaws
pub mod RowsLaws
pub mod Distinct
pub mod WordsLaws
