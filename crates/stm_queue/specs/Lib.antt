-- What a reader has to believe: the queue and what each call does to it, ascending tickets, and the laws of the tickets in it.
pub mod Laws
pub mod Queue
pub mod SortedTickets
-- The words inside, for the two lists that the queue is kept in.
pub mod QueueInvariant
