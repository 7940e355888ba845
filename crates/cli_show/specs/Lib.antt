pub mod Claims
pub mod Faults
pub mod Findings
pub mod Indented
pub mod KeyViews
pub mod Views
