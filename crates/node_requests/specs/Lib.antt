pub mod Changes
pub mod Parameters
pub mod Places
pub mod Requests
pub mod Steps
