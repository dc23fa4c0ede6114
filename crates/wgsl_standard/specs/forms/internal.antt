pub mod Results
pub mod Parts
pub mod Values
pub mod References
pub mod Letters
