pub mod Value
pub mod Findings
pub mod Met
pub mod Walk
