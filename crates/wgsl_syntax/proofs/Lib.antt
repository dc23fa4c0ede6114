pub mod Discrete
pub mod Naming
pub mod Renamed
pub mod Same
