-- What the program's proofs rest on beside verdict's theorems.
pub mod Bringing
