pub mod Sizes
pub mod Memory
pub mod Laws
