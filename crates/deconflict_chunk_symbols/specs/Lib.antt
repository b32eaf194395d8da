pub mod Performing
pub mod Run
pub mod Drawing
