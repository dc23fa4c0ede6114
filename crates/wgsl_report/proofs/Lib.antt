pub mod Nested
pub mod Divides
pub mod Opaque
