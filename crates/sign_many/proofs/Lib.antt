pub mod JobLaws
pub mod LayerLaws
pub mod SecretLaws
