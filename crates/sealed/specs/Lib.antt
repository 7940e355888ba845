pub mod Answers
pub mod Deciding
pub mod Sealing
pub mod Seals
pub mod Tests
