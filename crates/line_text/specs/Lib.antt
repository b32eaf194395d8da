pub mod Cut
pub mod Numerals
