pub mod KeygenLaws
pub mod RingLaws
pub mod RotateLaws
pub mod SmallLaws
