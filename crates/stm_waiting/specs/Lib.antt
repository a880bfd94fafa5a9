-- The words inside, for the waiting blocks by their tickets.
pub mod Entries
pub mod FreshReads
pub mod Places
pub mod TicketSets
