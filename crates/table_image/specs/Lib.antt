pub mod Layout
pub mod Shape
pub mod Lent
pub mod LentTable
