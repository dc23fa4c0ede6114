pub mod Answers
pub mod Constructors
pub mod Rows
