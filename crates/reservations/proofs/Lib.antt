mod Appended
mod Chained
mod Long
pub mod Bases
pub mod Ends
