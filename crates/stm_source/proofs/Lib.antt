mod CompiledTexts
mod DeclaredTexts
pub mod LaterNames
mod OneAnswer
pub mod PreparedBlocks
pub mod UsesAreCovered
