-- Laws on the pieces of texts and listings, on their lengths, and on lending.
-- What the proofs of several functions use, and those of other crates.
pub mod Clocks
pub mod Spelled
pub mod Pieces
pub mod Listing
pub mod TextsLengths
pub mod Giving
pub mod Walks
pub mod Laws
pub mod ListingLengths
