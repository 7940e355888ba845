-- A rehearsal: a federation of so many parameters is made in memory, its leaf is resolved twice, and the second chain is checked.
use Rattle.std.specs.Prelude.{◌≡◌, ℕ, List, length, Bool, true, false, Option, Some, None, Result, Ok, Err}
use Rattle.authority_core.specs.Nodes.{Node as Authority}
use Rattle.chain_check.specs.declared.verdict.Resolved.{Resolved}
use Rattle.chain_check.specs.declared.verdict.Verdict.TheVariants.{Valid}
use Rattle.chain_check.specs.Chains.{Texts}
use Rattle.chain_check.specs.Validity.{case_of}
use Rattle.chain_check.specs.Verdicts.{IsVerdictOn}
use Rattle.jwk_set.specs.declared.jwk.Jwk.{Jwk}
use Rattle.fed_net.specs.declared.memory_link.MemoryLink.{MemoryLink}
use Rattle.fed_net.specs.MemoryPeers.{peer_held}
use Rattle.turn_log.specs.Passes.{unused}
use Rattle.turn_log.specs.Runs.{call_limit}
use Rattle.turn_log.specs.Groups.{known}
use Rattle.statement_shelf.specs.Passes.{CommonsKnown, CommonsPass}
use Rattle.resolve_round.specs.Acts.{HasCounted}
use Rattle.fed_serve.specs.declared.node.Node.{Node}
use Rattle.rehearsal.specs.declared.fault.RehearsalFault.{RehearsalFault}
use Rattle.rehearsal.specs.declared.fault.RehearsalFault.TheVariants.{Worn, Memory}
use Rattle.rehearsal.specs.declared.federation.Entity.{Entity}
use Rattle.rehearsal.specs.declared.requesting.Answer.{Answer}
use Rattle.rehearsal.specs.declared.summary.Counts.{Counts}
use Rattle.rehearsal.specs.declared.summary.Summary.{Summary}
use Rattle.rehearsal.specs.Configurations.{IsConfigured, resolver_key, resolver_text, resolving_by}
use Rattle.rehearsal.specs.Federations.{Federation, IsFederation}
use Rattle.rehearsal.specs.Keys.{ring_of}
use Rattle.rehearsal.specs.Moments.{moment}
use Rattle.rehearsal.specs.Replies.{Carries, body_of}
use Rattle.rehearsal.specs.Requests.{IsAnswer, IsBegun, IsResolverNode, Shared, shared_at}
use Rattle.rehearsal.specs.Summaries.{IsCountOf, IsLast}

-- the chain is valid for the anchor under these keys, at the moment of the rehearsal, as was checked; and this is its summary
pub record IsChecked (params : ℕ) (chain : Texts) (anchor : List ℕ) (keys : List Jwk) (last : List ℕ) : Type 0 where
  pub resolved : Resolved
  pub valid : IsVerdictOn (case_of chain anchor keys moment) (Valid resolved)
  pub tells : IsLast params resolved.metadata last

-- the second reply carries this chain, which is valid, and the summary tells of both
pub record IsSummary (params : ℕ) (anchor : List ℕ) (counts : Counts) (second : Answer) (summary : Summary) : Type 0 where
  pub size : summary.params ≡ params
  pub chain : Texts
  pub carries : Carries (body_of (peer_held second.peer)) chain
  pub statements : summary.chain ≡ length chain
  pub first_counts : summary.first ≡ counts
  pub second_counts : IsCountOf second.trace summary.second
  pub checked : IsChecked params chain anchor second.trace.keys.keys summary.last

-- two requests were answered, one after the other, with one pass, one link, one clock and one ledger
pub record IsAskedTwice (node : Node) (params : ℕ) (anchor : List ℕ) (before : Shared) (summary : Summary) : Type 0 where
  pub between : Shared
  pub after : Shared
  pub first : Answer
  pub answered : IsAnswer node before between first
  pub counts : Counts
  pub counted : IsCountOf first.trace counts
  pub second : Answer
  pub again : IsAnswer node between after second
  pub tells : IsSummary params anchor counts second summary

-- the same by a resolver whose trust anchor is this entity, over a link that wasn't called yet
pub record IsAskedBy (params : ℕ) (anchor : Entity) (link : MemoryLink) (summary : Summary) : Type 0 where
  pub resolver : Authority
  pub configured : IsConfigured (resolving_by anchor.keys) (ring_of resolver_key) resolver
  pub node : Node
  pub resolves : IsResolverNode resolver node
  pub knows : CommonsKnown
  pub parts_unused : (p : ℕ) → knows.part p ≡ unused
  pub book_unused : knows.book ≡ unused
  pub asked : IsAskedTwice node params anchor.id (shared_at link 0 knows 0) summary

-- the whole rehearsal
pub record IsRehearsal (params : ℕ) (summary : Summary) : Type 0 where
  -- the federation, and the resolver beside it, are those of their configurations
  pub federation : Federation
  pub is : IsFederation params federation
  pub resolver : Authority
  pub configured : IsConfigured resolver_text (ring_of resolver_key) resolver
  pub node : Node
  pub resolves : IsResolverNode resolver node
  -- the pages of the federation stand in the link, and nothing was done yet
  pub start : Shared
  pub begun : IsBegun federation start
  -- the leaf is resolved twice
  pub asked : IsAskedTwice node params federation.anchor.settings.id start summary

-- a rehearsal broke off at a worn object
abbrev pub is_worn : {X : Type 0} → Result X RehearsalFault → Bool
is_worn (Ok x) = false
is_worn (Err Worn) = true
is_worn (Err Memory) = false

module _ {S T : Type 0} where
  -- a pass is held exactly where a shared object was worn: it has seen all the 2^62 calls on one
  abbrev pub HoldsWornOf : RehearsalFault → Option (CommonsPass S T) → Type 0
  HoldsWornOf Worn worn =
      (pass : CommonsPass S T) × (worn ≡ Some pass) × HasCounted (known pass) call_limit
  HoldsWornOf Memory worn = worn ≡ None

  abbrev pub HoldsWornBy : {X : Type 0} → Result X RehearsalFault → Option (CommonsPass S T) → Type 0
  HoldsWornBy (Ok x) worn = worn ≡ None
  HoldsWornBy (Err fault) worn = HoldsWornOf fault worn
