pub mod Decided
pub mod Formed
pub mod Reached
pub mod Running
