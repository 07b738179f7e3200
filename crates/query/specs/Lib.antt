-- What the questions are answered from, and the words that they are answered in.
pub mod Standing
pub mod Listed
pub mod Words
pub mod Faults
