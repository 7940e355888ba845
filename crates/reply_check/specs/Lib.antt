pub mod Marks
pub mod Readings
pub mod Stages
pub mod Verdicts
