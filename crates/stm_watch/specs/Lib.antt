-- What a reader has to believe: the pairs of the index, and what each call does to them.
pub mod Pairs
-- The words inside, for the pairs as they are kept.
pub mod Tabled
pub mod TicketLists
