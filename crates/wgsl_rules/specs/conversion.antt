pub mod Conversion
pub mod Loading
pub mod Common
pub mod Lists
pub mod Concrete
pub mod Converted
