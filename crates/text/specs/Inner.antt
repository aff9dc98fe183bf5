-- What the private functions promise each other. No public contract cites these.
pub mod Finds
pub mod Put
pub mod Ready
pub mod StepLine
pub mod Told
pub mod ReadsCall
