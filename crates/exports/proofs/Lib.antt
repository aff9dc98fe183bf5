-- The laws of the packing, and the theorems over it.
pub mod Values
pub mod Parts
pub mod Only
