pub mod Chains
pub mod Walks
pub mod Finds
pub mod Mapped
mod Counting
