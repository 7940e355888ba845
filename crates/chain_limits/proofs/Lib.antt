pub mod Kept
pub mod Named
pub mod Utf8
pub mod Verdicts
