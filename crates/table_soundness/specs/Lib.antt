-- The tests of slots and streams, in the groups in which they are made.
pub mod Groups
