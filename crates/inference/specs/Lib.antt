pub mod Natural
pub mod Passes
pub mod Settled
