pub mod ActionsSound
pub mod BlocksOfChecks
pub mod CheckComplete
pub mod CheckExact
pub mod CheckTakesNoMemory
pub mod CheckedResolved
pub mod CheckedTyped
pub mod ExpressionsSound
pub mod LaterNames
pub mod NameBits
pub mod RecordedUses
pub mod SameTypes
mod Sizes
pub mod Strengthening
pub mod TypedBlockInvariant
pub mod TypingLaws
pub mod UsesApart
pub mod Weakening
