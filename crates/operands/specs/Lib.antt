pub mod Role
pub mod Spread
pub mod Laid
pub mod Viewed
pub mod Leaf
