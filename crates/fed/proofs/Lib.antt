mod AuthorityLaws
mod CommandLaws
mod RegisterLaws
mod RehearsalLaws
mod ResolveLaws
mod ResolverLaws
