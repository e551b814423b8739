pub mod Turns
pub mod Programs
pub mod AnyPage
