-- Choices and counts.
pub mod Choice
pub mod Tally
pub mod Lists
pub mod Few
pub mod Place
