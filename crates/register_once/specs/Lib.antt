pub mod Finding
pub mod Opened
pub mod Registering
pub mod Stops
