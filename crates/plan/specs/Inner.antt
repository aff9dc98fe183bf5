-- What the private functions promise each other. No public contract cites these.
pub mod Marks
pub mod Trials
pub mod Planning
pub mod Laying
