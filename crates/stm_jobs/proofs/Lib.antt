mod Answered
pub mod Crosses
