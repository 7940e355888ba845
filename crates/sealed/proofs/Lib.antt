pub mod DecidingLaws
pub mod Headers
pub mod SealLaws
pub mod Sealings
