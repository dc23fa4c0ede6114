pub mod Extent
pub mod spaces
