-- What a reader has to believe: which history a storm of a script leaves, and what it writes.
pub mod StormHistory
pub mod StormText
-- The words inside, for the replay of what it leaves.
pub mod StormEnd
