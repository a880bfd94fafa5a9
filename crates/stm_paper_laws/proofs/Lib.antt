-- Actions with values in place of locals, the heaps of views, and how outcomes are passed on.
pub mod Substitution
pub mod Heaps
pub mod Outcomes
-- The transitions lead to what `run` says.
pub mod LeadToRun
-- And `run` says what they lead to, whatever names they give to new cells.
pub mod Names
pub mod LikeRuns
pub mod NamedTransitions
pub mod Starts
-- So two of their ends are the same.
pub mod SameEnds
-- By the numbers of the store.
pub mod StoreNames
-- The laws.
pub mod PaperLaws
pub mod AtomicLaws
pub mod HistoryLaws
pub mod HistoryTurns
-- A run of blocks by `atomic` as a history.
pub mod StepsBack
pub mod RunHistories
