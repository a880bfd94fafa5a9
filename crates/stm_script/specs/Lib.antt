-- What a reader has to believe: what a script says, or why it is faulty.
pub mod FaultText
pub mod Limits
pub mod StormScript
-- The words inside, for a script that is read line by line.
pub mod ScriptReading
