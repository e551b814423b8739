-- The lines of a history, by the stream that they are about and by the bytes that they are read from.
pub mod Shades
pub mod Telling
pub mod Counts
pub mod Marks
pub mod Said
pub mod ReadBack
