mod CallLaws
mod ClaimLaws
mod HeedLaws
mod LineLaws
mod PostLaws
