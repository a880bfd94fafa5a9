-- What a reader has to believe: what is written for the lines of an input.
pub mod AfterLines
pub mod Console
pub mod ConsoleState
pub mod Declaring
pub mod Fitting
pub mod Growing
pub mod LineCheckpoints
pub mod WrittenRun
-- The words inside, for what the code keeps between two steps, and for inputs that it takes in parts.
pub mod Abstraction
pub mod LentDesk
pub mod Streaming
