-- What the sentences of the demands speak of.
pub mod Answers
pub mod History
pub mod Harness
pub mod Datagrams
