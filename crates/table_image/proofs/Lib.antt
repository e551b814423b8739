-- Laws of the table's image that this crate's proofs and its callers' cite.
pub mod Bits
pub mod Shapes
pub mod Stored
pub mod TableBack
pub mod TidyImage
pub mod ImageBack
pub mod Lending
