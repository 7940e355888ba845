pub mod KeySets
pub mod Keys
pub mod Listed
pub mod Thumbprints
pub mod Trees
