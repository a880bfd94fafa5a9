pub mod AsciiArguments
pub mod CallsInTurn
pub mod CommandLines
pub mod LineFeeds
pub mod LongLines
pub mod ReadLines
pub mod TakenParts
pub mod Writing
