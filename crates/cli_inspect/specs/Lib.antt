pub mod Configs
pub mod Inspections
pub mod Outputs
pub mod Publics
pub mod ReplyChecks
pub mod Reports
pub mod Shows
