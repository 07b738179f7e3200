-- Runs, plain nodes, and demand 3: the statements, in reading order.
pub mod Callees
pub mod Run
pub mod Settled
pub mod Plain
pub mod Demand
