pub mod Behind
pub mod Concluding
