pub mod All
pub mod Lines
pub mod Pairs
