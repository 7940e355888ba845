pub mod Combining
pub mod Merging
pub mod Names
pub mod Places
pub mod Policies
pub mod Scope
pub mod Shapes
