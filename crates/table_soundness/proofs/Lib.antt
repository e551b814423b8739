-- Laws of the test of refusal 16, and what a sound image gives to those who are lent it.
mod Singles
mod Chunks
mod Places
pub mod Slots
