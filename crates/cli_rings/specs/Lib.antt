pub mod Issues
pub mod Keygens
pub mod Replies
pub mod RingFiles
pub mod Rotations
pub mod SealedLines
