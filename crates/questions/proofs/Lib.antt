-- What the proofs of several functions use.
pub mod Front
pub mod Demand
pub mod Tables
pub mod Asked
