pub mod Parts
pub mod Places
pub mod Trees
pub mod Twice
pub mod Warnings
