pub mod Session
pub mod Vetoes
pub mod Rules
pub mod Calls
pub mod Helpers
pub mod Events
pub mod Laws
pub mod Cases
