-- The pieces of texts and listings, texts in which names are spelled, and what lending bytes for a text gives.
-- Clocks that are low enough to be printed, what clock inference left of a node, the clocks of its equations, and a node that
-- is listed.
pub mod Pieces
pub mod Lending
pub mod Low
pub mod ToldClocks
pub mod Walk
pub mod Listed
pub mod Spelled
