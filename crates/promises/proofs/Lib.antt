-- The demands, sentence by sentence, of the call for C.
pub mod Demand1
pub mod Demand2
pub mod Demand3
pub mod Endings
pub mod Openings
pub mod Grants
pub mod Orders
pub mod Complaints
pub mod Datagrams
-- What they rest on. What an effect writes, what the bytes lent say of their record, and what holds on every way that a call can go.
pub mod Written
pub mod Orderly
-- The sentences on one call of the tables: refusals, errors, what is read from its bytes, the rule that answers a message, OUTSTATE, what
-- may be named in state 9.
pub mod Refused
pub mod ErrorAck
pub mod Whole
pub mod Verdicts
pub mod OutState
pub mod Named
-- Runs on tables; history and table agree, call by call; what a harness hears is that history.
pub mod Runs
pub mod Agreement
pub mod Harness
