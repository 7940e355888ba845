pub mod Cutting
pub mod Ends
pub mod Members
pub mod Sizes
pub mod Takings
pub mod Texts
pub mod Trimming
