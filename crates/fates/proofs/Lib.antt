-- What the program tells, that its lines are those of the history, and what a turn of any program leaves, said of fates.
pub mod Telling
pub mod Reckoned
pub mod Turns
