mod Closes
mod Counted
pub mod Crosses
mod Newcomers
mod OneJob
mod OnlyTheirs
mod ListOneLonger
mod WorkUponWork
