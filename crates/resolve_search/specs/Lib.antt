pub mod Answering
pub mod Calls
pub mod Driving
pub mod Judging
pub mod Turning
