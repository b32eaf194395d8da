mod FormatWords
mod Found
pub mod Digits
pub mod Symbols
pub mod Lines
pub mod ModuleRows
pub mod Parts
pub mod Modules
pub mod ChunkRows
pub mod Chunks
pub mod Documents
