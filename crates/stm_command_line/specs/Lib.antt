-- What a reader has to believe: what words ask for, and which of them are taken.
pub mod CommandLine
pub mod WordLaws
