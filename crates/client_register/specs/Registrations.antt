-- What a provider registers (OpenID Federation 1.0 section 12.2.3). That the claims `client_id` and `trust_chain` stand in it is this
-- project's profile.
use Rattle.std.specs.Prelude.{◌≡◌, ◌+◌, ℕ, List, [], ◌∷◌, drop, map, min, codes, Option, Some}
use Rattle.fed_json.specs.declared.tree.Json.{Json, Object, Text, List as ListOf}
use Rattle.fed_json.specs.Members.{number_member, text_member}
use Rattle.fed_json.specs.Reading.{member_of}
use Rattle.fed_json.specs.Trees.{find, object_members}
use Rattle.jwk_set.specs.declared.jwk.Jwk.{Jwk}
use Rattle.slh_dsa.specs.Keys.{Keys}
use Rattle.entity_statement.specs.Claims.{Claims, Identifier}
use Rattle.chain_check.specs.Chains.{Texts, statements_of}
use Rattle.chain_check.specs.Names.{subject_at}
use Rattle.chain_check.specs.Validity.{Case, case_of, IsValid, ResolvesTo}
use Rattle.chain_check.specs.Verdicts.{least_exp}
use Rattle.client_register.specs.declared.found.Found.{Found}
use Rattle.client_register.specs.declared.found.Found.TheVariants as found
use Rattle.client_register.specs.declared.posted.Posted.{Posted}
use Rattle.client_register.specs.declared.posted.Posted.TheVariants.{Chain, Configuration}
use Rattle.client_register.specs.declared.registration.Registration.{Registration}
use Rattle.client_register.specs.Requests.{posted_in}

-- who registers: the provider's name and keys, the trust anchor's name and keys, how many seconds a registration lasts at most, and the
-- moment
pub record Registrar : Type 0 where
  pub iss : Identifier
  pub signer : Keys
  pub anchor : Identifier
  pub keys : List Jwk
  pub lifetime : ℕ
  pub moment : ℕ

abbrev pub registrar : Identifier → Keys → Identifier → List Jwk → ℕ → ℕ → Registrar
registrar iss signer anchor keys lifetime moment =
    record { iss = iss; signer = signer; anchor = anchor; keys = keys; lifetime = lifetime; moment = moment }

-- what is registered: by whom, the bytes that were posted, and the last answer of the finder, which only a configuration asks for
pub record Request : Type 0 where
  pub here : Registrar
  pub bytes : List ℕ
  pub found : Option Found

abbrev pub request : Registrar → List ℕ → Option Found → Request
request here bytes found = record { here = here; bytes = bytes; found = found }

-- ---- the chain

-- the chain: the posted one, or the posted configuration and what was found behind the leaf's (section 12.2.2)
abbrev pub IsChainAs : List ℕ → Option Found → Posted → Texts → Type 0
IsChainAs bytes answer (Chain texts) chain = chain ≡ texts
IsChainAs bytes (Some (found.Chain texts)) (Configuration entity) chain = chain ≡ bytes ∷ drop 1 texts
IsChainAs bytes answer posted chain = ⊥

abbrev pub IsChain : Request → Texts → Type 0
IsChain q chain = IsChainAs q.bytes q.found (posted_in q.bytes) chain

-- the chain as it is judged: up to the anchor, under the anchor's keys, at the moment (section 10.2)
abbrev pub case_in : Request → Texts → Case
case_in q chain = case_of chain q.here.anchor q.here.keys q.here.moment

-- the request has this chain, which is valid and resolves to this metadata (sections 10.2 and 6.1.4)
pub record Resolves (q : Request) (chain : Texts) (metadata : Json) : Type 0 where
  pub is_chain : IsChain q chain
  pub valid : IsValid (case_in q chain)
  pub resolves : ResolvesTo (statements_of chain) metadata

-- ---- the claims

-- the entity type of a relying party (section 5.1.2)
abbrev pub party_type : List ℕ
party_type = codes "openid_relying_party"

-- the parameters of the relying party in a leaf's metadata (section 5.1.2)
abbrev pub party_in : Json → Option Json
party_in metadata = find party_type (object_members metadata)

-- until when a registration lasts: no longer than its chain, and no longer than the provider lets it (section 12.2.3, `exp`)
abbrev pub end_of : Registrar → List Claims → ℕ
end_of here chain = min (least_exp chain) (here.moment + here.lifetime)

-- what is registered of the leaf of a chain, whose parameters as a relying party are these
abbrev pub registration_of : Registrar → Texts → Json → Registration
registration_of here chain party = record {
  sub = subject_at (statements_of chain) 0;
  iat = here.moment;
  exp = end_of here (statements_of chain);
  party = party;
  chain = chain;
}

-- the claims, with their members in byte order (section 12.2.3)
unfoldable pub registration_claims : Identifier → Identifier → Registration → Json
registration_claims iss anchor r = Object (
    text_member (codes "client_id") r.sub
    ∷ number_member (codes "exp") r.exp
    ∷ number_member (codes "iat") r.iat
    ∷ text_member (codes "iss") iss
    ∷ member_of (codes "metadata") (Object (member_of party_type r.party ∷ []))
    ∷ text_member (codes "sub") r.sub
    ∷ text_member (codes "trust_anchor") anchor
    ∷ member_of (codes "trust_chain") (ListOf (map Text r.chain))
    ∷ [])

-- the claims are the registration of a valid chain's leaf, as the one type that the chain's metadata has of it (section 12.2.3)
pub record IsRegistration (q : Request) (claims : Json) : Type 0 where
  pub chain : Texts
  pub metadata : Json
  pub resolves : Resolves q chain metadata
  pub party : Json
  pub has_type : party_in metadata ≡ Some party
  pub says : claims ≡ registration_claims q.here.iss q.here.anchor (registration_of q.here chain party)
