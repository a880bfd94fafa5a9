-- What a reader has to believe: what holds of a desk over all its checkpoints, and of the integers in its history.
pub mod Lives
pub mod IntegerRange
