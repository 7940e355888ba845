-- That the program knows which URLs its search was answered.
use Rattle.std.specs.Prelude.{◌≡◌, ℕ, List, map}
use Rattle.chain_climb.specs.declared.want.Want.{Want}
use Rattle.chain_climb.specs.declared.want.Want.TheVariants.{Config, Superior}
use Rattle.chain_climb.specs.Sessions.{Search}
use Rattle.chain_climb.specs.Wants.{url_of}

-- these are the URLs of the answered pages, and the most calls of the search
pub record Follows (s : Search) (urls : List (List ℕ)) (calls : ℕ) : Type 0 where
  pub urls_are : urls ≡ map url_of s.pages
  pub calls_are : s.bounds.calls ≡ calls

-- the page at this URL is wanted
abbrev pub WantsUrl : Want → List ℕ → Type 0
WantsUrl (Config entity at) url = at ≡ url
WantsUrl (Superior superior subject at) url = at ≡ url
WantsUrl want url = ⊥
