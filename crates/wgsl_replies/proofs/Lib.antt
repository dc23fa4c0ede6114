pub mod Common
pub mod Cuts
pub mod Numbers
pub mod OneReply
pub mod OneReplyToWords
pub mod Reading
pub mod Within
