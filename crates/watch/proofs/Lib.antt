-- Laws of the line that has begun.
pub mod Coming
