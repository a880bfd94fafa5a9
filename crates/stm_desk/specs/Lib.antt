-- What a reader has to believe: what contracts see of a desk, what each call is refused for, what is handed out, what settling does,
-- and what a waiting block waits for.
pub mod Checkpointed
pub mod DeskView
pub mod Evaluating
pub mod Events
pub mod HandedOut
pub mod Reasons
pub mod Refusals
pub mod RunAtOnce
pub mod Settling
-- The words inside, for what a desk keeps, for one step of settling, and for what is found of a reason or a cause.
pub mod Causes
pub mod Kept
pub mod ReasonsByEvents
pub mod Steps
pub mod WorkOrders
