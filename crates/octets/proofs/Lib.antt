-- Laws that the proofs of this crate and of its callers cite.
pub mod Numbers
pub mod Runs
pub mod Blocks
pub mod Pieces
pub mod Writing
