-- Laws on names that the functions' proofs cite.
-- Laws on a sheet's bytes.
-- Laws on the bytes written.
pub mod NamesLaws
pub mod Walked
pub mod BucketLaws
pub mod Words
pub mod Laws
pub mod Stores
pub mod Cuts
pub mod Whole
pub mod WritingWords
pub mod RoundTrip
