pub mod Claims
pub mod Forms
pub mod Grammar
pub mod Signed
pub mod Table
pub mod Told
pub mod Use
