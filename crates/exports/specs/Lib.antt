-- The C face: how one number says an answer. `Inner` holds what the private functions promise each other.
pub mod Packed
pub mod Inner
