pub mod FaultLines
pub mod FewSections
pub mod ReadResults
pub mod ReadScript
