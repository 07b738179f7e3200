-- The lines that tell a refusal.
pub mod Reasons
