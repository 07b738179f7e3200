-- What the proofs of several functions use.
pub mod Lefts
pub mod Flags
pub mod Noting
pub mod Right
pub mod Ends
pub mod Outcomes
