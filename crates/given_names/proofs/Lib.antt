pub mod Bounded
pub mod Numbered
pub mod Counts
pub mod Named
