pub mod Identifying
