pub mod OneStream
pub mod Reaching
pub mod Serving
pub mod Streaming
