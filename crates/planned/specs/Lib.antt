pub mod Writes
pub mod Opening
pub mod Held
pub mod Shown
pub mod Framed
pub mod Planned
pub mod Grounds
