-- Laws of the call that this crate's proofs cite.
mod Laws
