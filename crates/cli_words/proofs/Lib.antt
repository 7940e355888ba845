mod AskedLaws
pub mod Answered
