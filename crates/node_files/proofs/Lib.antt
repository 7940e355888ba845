mod AnchorLaws
mod NodeLaws
