-- What a reader has to believe: the slow desk, its settling, its laws, what each call is refused for, and the states that a
-- history may begin from.
pub mod Answers
pub mod Declaring
pub mod Delivered
pub mod DrainCounts
pub mod Headline
pub mod HeadlineFrom
pub mod KeptCauses
pub mod Labelling
pub mod Labels
pub mod Laws
pub mod Ready
pub mod Refusals
pub mod Rounds
pub mod SlowAtomically
pub mod SlowDesk
pub mod SlowDrain
pub mod SlowSettle
pub mod States
-- The words inside.
pub mod BlockStatus
pub mod Sharing
