pub mod Bounds
pub mod Looking
pub mod Marks
pub mod Replies
