-- What the private functions find, one idea a file. No public contract cites these.
pub mod Peel
pub mod Laying
pub mod Distances
pub mod Rows
pub mod Waiting
pub mod Finding
