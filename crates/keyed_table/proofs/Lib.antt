pub mod Latest
pub mod Held
pub mod Seeks
pub mod Lookups
pub mod Wires
pub mod Views
pub mod Listings
pub mod Lawful
