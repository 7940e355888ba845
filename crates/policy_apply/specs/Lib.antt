pub mod Acting
pub mod Applying
pub mod Keeping
