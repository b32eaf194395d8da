pub mod Risings
