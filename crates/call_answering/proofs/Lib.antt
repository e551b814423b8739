-- Laws of a decision on a message that this crate's proofs cite.
mod Laws
