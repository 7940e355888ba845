pub mod Compact
pub mod Faults
pub mod Header
pub mod Splitting
