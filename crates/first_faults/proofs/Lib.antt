-- The faults of a node one by one, and records of first faults in a list.
pub mod Laws
pub mod Records
pub mod Standing
pub mod Bounds
