-- What a reader has to believe: what is returned for all jobs.
pub mod Answers
-- The words inside, for the slots of jobs.
pub mod Slots
