-- What a reader has to believe: what the program does, what a check writes, and the exit statuses; and what follows of these.
pub mod Program
pub mod Checking
pub mod ExitStatus
pub mod Journal
pub mod Why
-- what follows: the laws of the exit statuses
pub mod StatusLaws
