-- What a reader has to believe: the trees, what they do, read and come to, their types, and what is written of them.
pub mod Ast
pub mod Changes
pub mod Limits
pub mod Names
pub mod ParsedAst
pub mod ParsedBlock
pub mod ReadSet
pub mod Semantics
pub mod Texts
pub mod Typing
pub mod UnlessNoMemory
pub mod Value
pub mod Verdict
-- The words inside, for sums that std has checked, and for trees as values that have a code.
pub mod OverflowArithmetic
pub mod TreeEncoding
