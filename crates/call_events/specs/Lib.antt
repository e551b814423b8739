pub mod DueRow
pub mod Bringing
