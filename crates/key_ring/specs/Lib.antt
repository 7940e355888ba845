pub mod Changes
pub mod Files
pub mod Keeping
pub mod Lasting
pub mod Readings
pub mod Rings
pub mod Sets
pub mod Terms
