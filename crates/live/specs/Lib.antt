-- Document 02, §6 and §7: what the live judge says of each step, and who is forgotten.
pub mod Answers
pub mod SoFar
pub mod Breach
pub mod Closed
pub mod Says
pub mod Forgotten
pub mod Kept
pub mod LiveCall
pub mod Live
pub mod Apart
pub mod Inner
