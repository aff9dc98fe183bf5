-- What the private functions promise each other. No public contract cites these.
pub mod Small
