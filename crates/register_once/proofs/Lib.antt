mod AnchorKeyLaws
mod FinderLaws
mod OutcomeLaws
mod StopLaws
