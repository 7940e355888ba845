pub mod Book
pub mod Entries
pub mod Laws
pub mod Passes
pub mod Shelf
