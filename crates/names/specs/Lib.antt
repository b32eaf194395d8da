pub mod Refusals
pub mod Spelt
pub mod Forms
pub mod Words
pub mod Bases
