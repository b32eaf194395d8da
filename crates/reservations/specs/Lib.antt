pub mod Reserving
pub mod Reserved
pub mod Laws
