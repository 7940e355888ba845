pub mod Waiters
