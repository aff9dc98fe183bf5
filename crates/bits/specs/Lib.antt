-- Marks kept as the bits of numbers.
pub mod Word
pub mod Run
pub mod Table
pub mod Walk
