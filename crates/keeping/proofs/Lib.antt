-- A sound table: the paper's test and the facts, a stream's changes, the table's changes, its image.
pub mod Tested
pub mod Changes
pub mod Leaves
pub mod Lent
pub mod NextNumber
-- What the lines of a call say, and what the table shows.
pub mod Lines
pub mod Traces
-- Each effect, by a state row that fits; opening and closing; every call, and every call on a lent image.
pub mod Rows
pub mod Binds
pub mod Effects
pub mod Listeners
pub mod Closes
pub mod Kept
pub mod Images
