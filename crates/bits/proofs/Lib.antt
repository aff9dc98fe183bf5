-- Laws of marks.
pub mod Marks
pub mod Walks
pub mod Putting
pub mod Runs
