pub mod Answers
pub mod Documents
pub mod Records
pub mod Searches
pub mod View
