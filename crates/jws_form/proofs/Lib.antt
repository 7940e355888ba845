pub mod Algorithms
pub mod Alphabet
pub mod Bytes
pub mod Faults
pub mod Headers
pub mod Laws
pub mod Stops
