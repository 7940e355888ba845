pub mod Alone
pub mod CallSteps
pub mod Calls
pub mod Exchanged
pub mod Ports
pub mod Webs
