mod AnswerLaws
mod FederationLaws
mod RehearsalLaws
mod RingLaws
mod SeedLaws
mod WholeLaws
