pub mod Replies
pub mod words
