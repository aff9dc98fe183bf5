-- Laws about these words.
pub mod Truth
pub mod Counting
pub mod Places
pub mod Entries
pub mod Stored
pub mod Dictionary
pub mod Search
pub mod Pigeon
pub mod From
pub mod Either
