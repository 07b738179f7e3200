pub mod Names
pub mod Many
pub mod Filled
