pub mod Found
pub mod After
