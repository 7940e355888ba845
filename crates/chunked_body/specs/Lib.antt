pub mod Answers
pub mod Grammar
pub mod Readers
pub mod Readings
