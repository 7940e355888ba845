pub mod Calls
pub mod Claims
pub mod Heeding
pub mod Lines
pub mod Posted
pub mod Stages
