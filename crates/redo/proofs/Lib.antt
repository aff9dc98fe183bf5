-- What the program's proofs rest on beside plan's and text's theorems.
pub mod Members
