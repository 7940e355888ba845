mod ConnectionLaws
mod EndLaws
mod StreamLaws
