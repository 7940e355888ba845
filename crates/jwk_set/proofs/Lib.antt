pub mod Members
pub mod Names
pub mod Sets
pub mod WrittenKeys
pub mod WrittenSets
