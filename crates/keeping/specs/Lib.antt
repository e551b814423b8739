-- What it is that calls keep.
pub mod Soundness
pub mod RowsFit
