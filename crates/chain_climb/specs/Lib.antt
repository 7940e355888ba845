pub mod Climbs
pub mod Elements
pub mod Ends
pub mod Facings
pub mod Paths
pub mod Sessions
pub mod Walks
pub mod Wants
