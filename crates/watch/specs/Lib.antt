-- What the program keeps of the line that has begun.
pub mod Begun
