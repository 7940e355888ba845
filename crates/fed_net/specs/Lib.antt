pub mod MemoryLinks
pub mod MemoryNetworks
pub mod MemoryPeers
