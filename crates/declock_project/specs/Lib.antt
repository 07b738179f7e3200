-- What walking over a sheet's nodes leaves, and what rewriting a sheet answers.
pub mod Walk
pub mod Given
