-- Laws of effects enacted that this crate's proofs cite.
mod Laws
