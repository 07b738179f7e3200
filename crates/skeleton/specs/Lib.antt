pub mod Around
pub mod Lies
pub mod Sites
