-- What a reader has to believe: the lines of a history, what can stand in them, and what holds of the blocks in them.
pub mod CheckedBlocks
pub mod CheckpointLines
pub mod Fits
pub mod Lines
pub mod ReadLines
-- The words inside.
pub mod CheckpointFields
pub mod Fields
pub mod Sending
