-- Laws of what a call leaves that its parts' proofs cite.
pub mod Laws
pub mod Rooms
