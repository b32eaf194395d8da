pub mod Model
pub mod Contents
pub mod Laws
pub mod Links
pub mod Listed
pub mod Ranks
