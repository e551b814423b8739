pub mod Leaving
pub mod Fresh
pub mod Takes
pub mod Deciding
pub mod Rooms
pub mod Answering
