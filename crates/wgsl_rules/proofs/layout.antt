pub mod Steps
pub mod Placing
pub mod OneSize
pub mod StructSizes
pub mod StructAligns
pub mod Offsets
pub mod OneLayout
pub mod MatrixColumns
