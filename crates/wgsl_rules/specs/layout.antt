pub mod Placement
pub mod Layout
