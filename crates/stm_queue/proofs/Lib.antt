pub mod BoolLemmas
pub mod InvariantPreserved
pub mod Membership
pub mod Merging
pub mod Moves
pub mod QueuedOnes
pub mod SortedInsertion
