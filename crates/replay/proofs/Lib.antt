-- What a turn of any program leaves, said of replay.
pub mod Turns
