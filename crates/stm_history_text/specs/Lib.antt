-- What a reader has to believe: where a history begins, in which format it is written, and its text.
pub mod HistoryText
pub mod Starts
