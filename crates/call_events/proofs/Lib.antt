-- Laws of a decision on an event that this crate's proofs cite.
mod Laws
