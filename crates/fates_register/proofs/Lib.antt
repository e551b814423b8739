-- The register that is kept while a history is read, against the book.
pub mod Laws
pub mod Cells
pub mod Places
pub mod Row
pub mod Pages
pub mod Whole
pub mod History
pub mod Kept
