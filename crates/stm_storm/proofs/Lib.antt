pub mod FailedReplays
pub mod LegalStorms
pub mod WrittenStorms
