-- What the proofs of several functions use, and those of other crates.
pub mod Laws
pub mod Arms
pub mod Defaults
pub mod Walk
pub mod HoldsLaws
pub mod LeftDefaultsLaws
pub mod FramesRights
pub mod FramesLaws
pub mod EquationsRights
pub mod Old
