pub mod Asking
pub mod KindLaws
pub mod Resolving
pub mod Rotating
pub mod SameSets
pub mod Utf8
