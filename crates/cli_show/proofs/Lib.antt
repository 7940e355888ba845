mod BlockLaws
mod ChainLaws
mod IndentedLaws
mod MarginLaws
mod SetLaws
mod StringLaws
