mod ConfigLaws
mod OnceLaws
mod PublicLaws
mod SteadyLaws
pub mod InspectLaws
