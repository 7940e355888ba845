pub mod Base64url
