-- What the private functions promise each other, and what stands between the rows and the log.
pub mod Accepted
pub mod Seen
pub mod Chain
pub mod Table
pub mod Held
pub mod Places
pub mod Forgetting
pub mod Noting
pub mod Around
pub mod Took
pub mod Parts
