-- What the program keeps of a log.
pub mod Kept
