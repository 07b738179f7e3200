pub mod Noted
pub mod Equations
pub mod Outcomes
