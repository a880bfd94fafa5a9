-- Lines that are written and read back.
pub mod CheckedBlocks
pub mod Checkpoints
pub mod Exact
pub mod FitsPushed
pub mod LaterNames
pub mod ReadAs
pub mod ReadLoosely
pub mod OneLines
pub mod Ranges
pub mod ReadsBack
pub mod RoundTrips
pub mod Sent
pub mod Types
