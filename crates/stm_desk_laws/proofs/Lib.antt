mod WholeLives
pub mod VerdictRange
pub mod HistoryRange
