-- The states that a history may begin from.
pub mod Checkpoints
pub mod CheckpointEntries
-- What the machine holds and hands out.
pub mod Atomic
pub mod Entries
pub mod IndexEncoding
pub mod JobsHandedOut
pub mod Keeping
pub mod Machine
pub mod Plans
pub mod QueueAndIndex
pub mod ReadySet
pub mod SettleChoices
