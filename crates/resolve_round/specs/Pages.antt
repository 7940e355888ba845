-- Which pages are good (OpenID Federation 1.0 sections 9 and 8.1), and which path gives the chain of a search.
use Rattle.std.specs.Prelude.{◌≡◌, ◌≢◌, ℕ, List, bytes_eq, filter_map, Bool, true, ◌&&◌, IsTrue, Option, Some, None, if◌then◌else◌}
use Rattle.std.specs.Option.{option_and_then}
use Rattle.jwk_set.specs.declared.jwk.Jwk.{Jwk}
use Rattle.sealed.specs.Seals.{IsSealedBy}
use Rattle.entity_id.specs.Urls.{well_known_of}
use Rattle.entity_statement.specs.Claims.{Claims, Identifier}
use Rattle.entity_statement.specs.Signed.{statement_of}
use Rattle.entity_statement.specs.Use.{current_at}
use Rattle.chain_check.specs.Chains.{Texts}
use Rattle.chain_check.specs.Validity.{Case, IsValid, IsWithin, ToLimits, case_of}
use Rattle.chain_check.specs.Validity.{chain_of as statements_in}
use Rattle.sealed.specs.Deciding.{is_sealed_by}
use Rattle.chain_climb.specs.declared.path.Path.{Path}
use Rattle.chain_climb.specs.declared.want.Bounds.{Bounds}
use Rattle.chain_climb.specs.Climbs.{Findings, Need, chain_urls, last_of}
use Rattle.chain_climb.specs.Paths.{IsPath, Precedes}

-- the document at each URL that has one
abbrev pub Pages : Type 0
Pages = List ℕ → Option (List ℕ)

-- the statement that the text reads as, where it has the names that were asked for
unfoldable pub named_statement : Need → List ℕ → Option Claims
named_statement page text =
    option_and_then (λ s. if bytes_eq s.iss page.issuer && bytes_eq s.sub page.subject then Some s else None) (statement_of text)

-- a configuration must be current and sealed by its own keys; of a superior's statement nothing more is asked
abbrev pub is_good : ℕ → Need → List ℕ → Claims → Bool
is_good t page text s = if bytes_eq page.issuer page.subject then current_at s.iat s.exp t && is_sealed_by text s.keys else true

-- what a text says for a need, where it is good
unfoldable pub good_text : ℕ → Need → List ℕ → Option Claims
good_text t page text = option_and_then (λ s. if is_good t page text s then Some s else None) (named_statement page text)

-- what is good of some pages at a moment
unfoldable pub findings : Pages → ℕ → Findings
findings pages t page = option_and_then (good_text t page) (pages page.url)

-- the same in words: the entity's configuration is there, reads as one, is current, and is sealed by its own keys
pub record GoodConfiguration (pages : Pages) (entity : Identifier) (t : ℕ) (s : Claims) : Type 0 where
  pub text : List ℕ
  pub page : pages (well_known_of entity) ≡ Some text
  pub reads : statement_of text ≡ Some s
  pub names : (s.iss ≡ entity) × (s.sub ≡ entity)
  pub current : IsTrue (current_at s.iat s.exp t)
  pub sealed : IsSealedBy text s.keys

-- and the superior's statement about the entity is there, and reads with these names
pub record GoodStatement (pages : Pages) (page : Need) (s : Claims) : Type 0 where
  pub text : List ℕ
  pub there : pages page.url ≡ Some text
  pub reads : statement_of text ≡ Some s
  pub names : (s.iss ≡ page.issuer) × (s.sub ≡ page.subject)

-- what a search is after: a chain of an entity to an anchor, under the anchor's keys, at a moment, within bounds
pub record Query : Type 0 where
  pub entity : Identifier
  pub anchor : Identifier
  pub keys : List Jwk
  pub moment : ℕ
  pub bounds : Bounds

-- the texts of a path's chain: the leaf's configuration, the statements, and the last one's configuration where there are more
unfoldable pub chain_of : Pages → Path → Texts
chain_of pages path = filter_map pages (chain_urls path)

-- the chain of a path as it is judged
abbrev pub case_in : Query → Pages → Path → Case
case_in query pages path = case_of (chain_of pages path) query.anchor query.keys query.moment

-- the path's chain is valid
abbrev pub HasValidChain : Query → Pages → Path → Type 0
HasValidChain query pages path = IsValid (case_in query pages path)

-- the chain passes every class of failures before its policies
abbrev pub ToMerge : Case → Type 0
ToMerge case = ToLimits case × IsWithin (statements_in case)

-- the path's chain fails, if at all, by its policies alone
abbrev pub PassesToMerge : Query → Pages → Path → Type 0
PassesToMerge query pages path = ToMerge (case_in query pages path)

-- the path goes from the entity up to the anchor by good pages
pub record IsWholePath (query : Query) (pages : Pages) (path : Path) : Type 0 where
  pub is_path : IsPath (findings pages query.moment) query.entity query.anchor query.bounds.depth path
  pub ends : last_of path ≡ query.anchor

-- the first path in their order whose chain is valid
pub record IsBest (query : Query) (pages : Pages) (path : Path) : Type 0 where
  pub whole : IsWholePath query pages path
  pub valid : HasValidChain query pages path
  pub first : (other : Path) → IsWholePath query pages other → HasValidChain query pages other → other ≢ path
      → Precedes (findings pages query.moment) path other

-- some path has a valid chain
pub record HasChain (query : Query) (pages : Pages) : Type 0 where
  pub path : Path
  pub whole : IsWholePath query pages path
  pub valid : HasValidChain query pages path
