pub mod Shapes
pub mod ResultTypes
pub mod Rows
pub mod Names
pub mod Table
pub mod Answers
