-- Laws that the proofs cite.
pub mod Laws
pub mod Putting
pub mod Lent
