-- What a reader has to believe: what each command does, and what it prints.
pub mod Arguments
pub mod Atomically
pub mod Blocks
pub mod Checkpointing
pub mod Contents
pub mod Declaring
pub mod DueTickets
pub mod Endings
pub mod Evaluation
pub mod Jobs
pub mod Labelling
pub mod OpenDesk
pub mod Printing
pub mod Questions
pub mod Refusals
-- The words inside, for what the type of an open desk keeps.
pub mod OpenInvariant
