-- What a reader has to believe: what a log keeps.
pub mod LogModel
-- The words inside, for the place of a key among pairs.
pub mod LowerBound
