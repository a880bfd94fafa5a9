pub mod AddedOptions
pub mod JournalWords
pub mod SaidNumbers
pub mod StormWords
pub mod WordAnswers
