pub mod Fields
pub mod Shifted
pub mod Values
