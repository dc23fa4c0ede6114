pub mod Calls
pub mod Constructors
pub mod Returned
pub mod Templates
pub mod internal
