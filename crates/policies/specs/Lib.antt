pub mod OwnModule
pub mod InnerNames
pub mod File
pub mod Sets
pub mod Held
pub mod Laws
pub mod Policies
