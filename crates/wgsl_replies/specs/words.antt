pub mod Prelude
pub mod Left
pub mod Names
pub mod Reader
pub mod Requests
pub mod Templates
pub mod Types
