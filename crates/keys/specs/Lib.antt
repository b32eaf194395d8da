pub mod Order
pub mod Refs
pub mod Names
pub mod Bindings
pub mod BindingEquality
pub mod NameOrder
pub mod NumberOrder
