pub mod Configurations
pub mod Federations
pub mod Keys
pub mod Moments
pub mod Rehearsals
pub mod Replies
pub mod Requests
pub mod Summaries
