-- What a reader has to believe: the block and the variable of a text, and why they are refused.
pub mod CompiledBlock
pub mod DeclaredVariable
pub mod NameText
pub mod OutOfMemory
pub mod Readings
-- The words inside, for what a declaration does to the table, and for the blocks that are kept as names are declared.
pub mod BlockCache
pub mod Declares
pub mod LateVariables
pub mod LaterNames
