-- What a reader has to believe: what a run leaves in its file, and when an answer is written.
pub mod DurableRun
pub mod WholeRun
-- The words inside, for what a run keeps between two lines.
pub mod Committing
pub mod GoingOn
-- What is known of new events, and of their numbers once they are read.
pub mod NewEvents
pub mod Ranges
