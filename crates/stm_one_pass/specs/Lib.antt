-- What was read in one pass.
pub mod OnePass
