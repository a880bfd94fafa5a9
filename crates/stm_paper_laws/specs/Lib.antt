-- What a reader has to believe: the rules, and what they have to do with `run`, with verdicts and with histories.
pub mod Atomic
pub mod AtomicRuns
pub mod Evaluation
pub mod Histories
pub mod Laws
pub mod Transitions
