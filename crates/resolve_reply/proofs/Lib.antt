pub mod ClaimLaws
pub mod MarkLaws
pub mod ReadLaws
