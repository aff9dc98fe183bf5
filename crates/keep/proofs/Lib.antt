-- What the program's proofs rest on beside verdict's and text's theorems.
pub mod Keeping
