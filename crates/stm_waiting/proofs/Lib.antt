-- The waiting blocks as their places have them, the search of a place, and which tickets a set has.
pub mod Placed
pub mod Searched
pub mod TicketMembers
