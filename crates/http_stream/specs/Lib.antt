pub mod Conversations
pub mod Cuttings
pub mod Streams
