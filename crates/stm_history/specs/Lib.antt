-- What a reader has to believe.
pub mod Explanation
pub mod FileLaws
pub mod Judgement
pub mod Loading
pub mod Progress
-- And the words inside.
pub mod Checking
pub mod Expecting
pub mod Following
pub mod Reading
pub mod Stages
pub mod Stopping
