-- What the writers of the records out ask, and what they write.
pub mod Rooms
