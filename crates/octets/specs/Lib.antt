-- Numbers and runs of bytes in lists.
pub mod Numbers
pub mod Runs
pub mod Blocks
pub mod Writing
