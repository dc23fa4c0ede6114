pub mod Forms
pub mod Layout
pub mod Nodes
pub mod Resolution
pub mod ResultStruct
pub mod Spelling
pub mod View
