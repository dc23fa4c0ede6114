pub mod Items
pub mod Others
pub mod Read
