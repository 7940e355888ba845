pub mod Answers
pub mod Heeding
pub mod MemoryAskers
pub mod Posts
pub mod Stages
pub mod Tells
