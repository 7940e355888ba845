pub mod Exchanging
pub mod Pages
pub mod Showing
pub mod WebUrls
