-- What the machine keeps.
pub mod KeptBlocksWait
pub mod Keeping
pub mod QueueAndIndexByTicket
pub mod AscendingListsAreOne
pub mod IndexFindsStale
pub mod StoreWith
-- The states that it is at, its moves, and its questions.
pub mod SameReadsElsewhere
pub mod BlocksByTicket
pub mod BlocksInTurn
pub mod Calls
pub mod CheckpointLabels
pub mod CheckpointStates
pub mod CheckpointTaken
pub mod Declaring
pub mod Delivery
pub mod Finishing
pub mod LowestDueIsFirst
pub mod MovesFollowEvents
pub mod Reading
pub mod Ready
pub mod RightDeliveries
pub mod RunAtOnce
pub mod SameObserved
pub mod States
pub mod JobsHandedOut
