pub mod Moments
pub mod NodeFiles
pub mod Orders
pub mod ResolvingParts
