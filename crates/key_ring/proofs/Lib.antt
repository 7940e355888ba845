mod ChangeLaws
mod FirstFaults
mod FoundAgain
mod Gathering
mod KeptOpens
mod MemberLaws
mod OpenLaws
mod RingForms
mod RingLaws
pub mod FileLaws
pub mod SetLaws
