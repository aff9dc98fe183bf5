-- Document 02 §8, which commits to redo: each file holds one of its rules and bears its name. `Inner` holds what the private functions promise each other.
pub mod Answers
pub mod TakenBack
pub mod Fine
pub mod WillDo
pub mod Proposal
pub mod AcceptsCall
pub mod Redo
pub mod RedoCall
pub mod Inner
