pub mod Lines
pub mod Book
