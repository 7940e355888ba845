pub mod AnswerLaws
pub mod LookLaws
pub mod MarkLaws
pub mod PlaceLaws
pub mod ReadLaws
pub mod VerdictLaws
