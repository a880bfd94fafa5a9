-- What a reader has to believe: the cells of a store and what a verdict does to them, declared variables, the names of variables, and
-- the laws.
pub mod Applying
pub mod Cells
pub mod Laws
pub mod Naming
pub mod Tables
-- The words inside, for the tests of types, the pages of cells and the writes to them.
pub mod Entries
pub mod FitsDecision
pub mod FreshReferences
pub mod NameEntries
pub mod Pages
pub mod RangeWrites
pub mod Roots
