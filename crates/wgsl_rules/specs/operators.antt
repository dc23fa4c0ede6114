pub mod Names
pub mod Candidates
pub mod Choice
pub mod Rows
pub mod UnaryRows
pub mod Answers
