pub mod Answers
pub mod Conversions
pub mod Values
pub mod Functions
pub mod Calls
pub mod Vectors
pub mod Literals
