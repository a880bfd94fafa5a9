pub mod LowerBoundSearch
pub mod SortedAfterInsert
