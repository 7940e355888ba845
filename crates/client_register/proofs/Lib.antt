pub mod AnswerLaws
pub mod ChainTexts
pub mod ClaimLaws
pub mod RequestLaws
pub mod StageLaws
