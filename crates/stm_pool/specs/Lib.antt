-- What a reader has to believe: what is known and shown to a client, why a call is refused, what a worker does, and what a storm leaves.
pub mod Closing
pub mod Found
pub mod Lent
pub mod Own
pub mod Refused
pub mod Shown
pub mod Storms
pub mod Worked
-- The words inside, for the counts of passes.
pub mod Counted
