pub mod AnswerLaws
pub mod FormLaws
pub mod HeedLaws
pub mod KeptLaws
pub mod LoopLaws
pub mod OneLaws
pub mod PostLaws
pub mod TellLaws
