pub mod Steps
pub mod Vectors
pub mod Matrices
pub mod Constructors
