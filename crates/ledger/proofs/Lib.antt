-- Laws of tests and counts that the proofs of other crates cite.
pub mod Tallies
pub mod Lists
pub mod Walks
pub mod Searches
pub mod Places
pub mod Found
pub mod Sums
