pub mod Answers
pub mod Finders
pub mod MemoryFinders
pub mod Registrations
pub mod Requests
pub mod Stages
