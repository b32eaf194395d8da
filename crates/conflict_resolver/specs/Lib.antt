pub mod Records
pub mod Rules
pub mod Laws
pub mod Cases
pub mod Rows
pub mod Held
pub mod Answers
