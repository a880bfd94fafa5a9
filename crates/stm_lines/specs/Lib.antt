-- What a reader has to believe: how an input is cut into lines, how a line is judged, and which arguments are numbers.
pub mod LineClass
pub mod Lines
pub mod NumberArgument
pub mod RunStatus
-- The words inside, for what is taken of an input line by line.
pub mod CountedCalls
pub mod Judged
pub mod LineReading
pub mod LineResults
pub mod ReadChunks
pub mod TakenLines
pub mod Unread
pub mod WrittenFronts
