-- Laws that the proofs of the programs cite.
pub mod Laws
