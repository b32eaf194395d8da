pub mod Padding
pub mod Apart
