pub mod ConnectionLaws
pub mod PageLaws
