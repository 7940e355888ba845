pub mod Connections
pub mod Ends
pub mod Streams
pub mod Tools
