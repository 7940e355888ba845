-- What the end of a search says of the paths to the trust anchor (OpenID Federation 1.0 section 10.1).
use Rattle.std.specs.Prelude.{◌≡◌, ◌⊎◌}
use Rattle.chain_climb.specs.declared.path.Path.{Path}
use Rattle.chain_climb.specs.declared.want.End.{End}
use Rattle.chain_climb.specs.declared.want.End.TheVariants.{Found, NoLeaf, PolicyOnly, NoChain}
use Rattle.chain_climb.specs.declared.want.Want.{Want}
use Rattle.chain_climb.specs.declared.want.Want.TheVariants.{Done}
use Rattle.chain_climb.specs.declared.answer.Answer.TheVariants.{Valid}
use Rattle.chain_climb.specs.declared.answer.Verdict.{Verdict}
use Rattle.chain_climb.specs.Climbs.{last_of, with_chain}
use Rattle.chain_climb.specs.Elements.{Among}
use Rattle.chain_climb.specs.Paths.{IsPath, Precedes}
use Rattle.chain_climb.specs.Sessions.{IsNoChain, Search, findings_of}

-- the path goes from the leaf up to the anchor, by the pages that were answered
abbrev pub LeadsToAnchor : Search → Path → Type 0
LeadsToAnchor s path = IsPath (findings_of s.pages) s.leaf s.anchor s.bounds.depth path × (last_of path ≡ s.anchor)

-- the chain of the path was judged, and isn't valid
abbrev pub IsRefused : Search → Path → Type 0
IsRefused s path = (verdict : Verdict) × Among verdict s.verdicts × (verdict.path ≡ with_chain path) × IsNoChain verdict.answer

-- an end without a valid path and without a bound
abbrev pub IsPlain : End → Type 0
IsPlain NoLeaf = Unit {0}
IsPlain PolicyOnly = Unit {0}
IsPlain NoChain = Unit {0}
IsPlain end = ⊥

-- where the search ends so, each path to the anchor was judged, and none is valid
abbrev pub LeavesNone : Search → Want → Type 0
LeavesNone s want = (end : End) → want ≡ Done end → IsPlain end → (path : Path) → LeadsToAnchor s path → IsRefused s path

-- the path with this chain was judged valid, and each other path to the anchor was refused or comes later
pub record IsFirstValid (s : Search) (chain : Path) : Type 0 where
  pub path : Path
  pub is_chain : chain ≡ with_chain path
  pub leads : LeadsToAnchor s path
  pub valid : Among (record { path = chain; answer = Valid }) s.verdicts
  pub first : (other : Path) → LeadsToAnchor s other → IsRefused s other ⊎ ((other ≡ path) ⊎ Precedes (findings_of s.pages) path other)

-- the chain that a search finds is the first valid one
abbrev pub FindsFirst : Search → Want → Type 0
FindsFirst s want = (chain : Path) → want ≡ Done (Found chain) → IsFirstValid s chain
