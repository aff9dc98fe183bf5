-- What the private functions promise each other. No public contract cites these.
pub mod StepAt
pub mod Marks
pub mod WriteTable
pub mod OwnReads
pub mod Checking
pub mod StaleReads
pub mod Clashes
pub mod Edges
pub mod ConflictEdges
pub mod VersionEdges
pub mod NextWriters
pub mod Reasons
pub mod ConflictReasons
pub mod VersionReasons
pub mod Leaving
pub mod Following
pub mod Placing
