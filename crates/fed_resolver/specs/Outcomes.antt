-- Which result a call has, by what its trace tells: each comes only where it says, and no two say the same.
use Rattle.std.specs.Prelude.{◌≡◌, ◌-◌, ℕ, List, length, slice_get, Some, Result, Ok, Err}
use Rattle.std.specs.Option.{option_and_then}
use Rattle.fed_json.specs.declared.tree.Json.{Json}
use Rattle.jwk_set.specs.declared.jwk.Jwk.{Jwk}
use Rattle.entity_statement.specs.Claims.{Claims, Identifier}
use Rattle.entity_statement.specs.Signed.{statement_of}
use Rattle.chain_check.specs.Chains.{Texts, statements_of}
use Rattle.chain_check.specs.Validity.{IsValid, ResolvesTo, case_of}
use Rattle.chain_check.specs.Verdicts.{least_exp}
use Rattle.chain_climb.specs.declared.path.Path.{Path}
use Rattle.chain_climb.specs.declared.want.End.{End}
use Rattle.chain_climb.specs.declared.want.End.TheVariants as end
use Rattle.statement_shelf.specs.declared.calls.BookReply.TheVariants as book
use Rattle.fed_resolver.specs.declared.outcome.Outcome.{Outcome}
use Rattle.fed_resolver.specs.declared.outcome.Refusal.{Refusal}
use Rattle.fed_resolver.specs.declared.outcome.Refusal.TheVariants.{NoAnchor, NotFound, PolicyOnly, NoChain, Unavailable, Budget, Worn, Memory}
use Rattle.resolve_reply.specs.declared.reply.Reply.{Reply}
use Rattle.resolve_reply.specs.declared.signer.Signer.{Signer}
use Rattle.resolve_round.specs.declared.trace.Trace.{Trace}
use Rattle.resolve_round.specs.Courses.{Course, found}
use Rattle.resolve_round.specs.Pages.{Query, chain_of}
use Rattle.resolve_reply.specs.declared.marks.GoodMarks.{GoodMarks}
use Rattle.resolve_reply.specs.declared.said.Said.{Said}
use Rattle.resolve_reply.specs.Marks.{AreConfigs, AreGood, looked_at}
use Rattle.resolve_reply.specs.Replies.{IsReplyOf, cut_to}
use Rattle.fed_resolver.specs.Searches.{Ends, ends_of, found_keys, found_texts, judging_after, keys_said}
use Rattle.resolve_round.specs.Rounds.{EndsAs, FoundPath, HadFault, IsLast, pages_in}
use Rattle.resolve_round.specs.Told.{ShowsSeals}
use Rattle.fed_resolver.specs.Told.{Situation, ToldInPart, ToldWhole, query_of}

-- what a reply says: the chain of a path and its metadata, cut to these types, with these marks
abbrev pub said_of : Query → List (List ℕ) → Texts → Json → GoodMarks → Said
said_of query types chain metadata good = record {
  sub = query.entity;
  iat = query.moment;
  exp = good.exp;
  metadata = cut_to types metadata;
  chain = chain;
  marks = good.entries;
}

-- what the ends of a chain say (OpenID Federation 1.0 section 4)
pub record HasEnds (query : Query) (chain : Texts) (ends : Ends) : Type 0 where
  -- the first text is the requested entity's own configuration
  pub leaf : option_and_then statement_of (slice_get chain 0) ≡ Some ends.leaf
  pub of_leaf : (ends.leaf.iss ≡ query.entity) × (ends.leaf.sub ≡ query.entity)
  -- the last is the trust anchor's, which lists who may issue trust marks
  pub anchor : option_and_then statement_of (slice_get chain (length chain - 1)) ≡ Some ends.anchor
  pub of_anchor : (ends.anchor.iss ≡ query.anchor) × (ends.anchor.sub ≡ query.anchor)

-- these are the keys of an issuer that has a chain: by itself it is valid for the anchor, under its keys and at the moment, and it begins
-- with the issuer's own configuration, which says these keys
pub record HasIssuerChain (query : Query) (issuer : Identifier) (keys : List Jwk) : Type 0 where
  pub chain : Texts
  pub valid : IsValid (case_of chain query.anchor query.keys query.moment)
  pub config : Claims
  pub first : option_and_then statement_of (slice_get chain 0) ≡ Some config
  pub of : (config.iss ≡ issuer) × (config.sub ≡ issuer)
  pub says : config.keys ≡ keys

-- the reply carries the chain of the path that the round found, and says what this chain says
pub record IsReply (query : Query) (types : List (List ℕ)) (signer : Signer) (last : Course) (others : List Course) (reply : Reply) : Type 0 where
  pub path : Path
  pub is_path : last.stop ≡ found path
  pub chain : Texts
  pub is_chain : chain ≡ chain_of (pages_in last) path
  -- the chain by itself is valid for the anchor, under its keys and at the moment
  pub valid : IsValid (case_of chain query.anchor query.keys query.moment)
  -- the leaf's metadata under the merged policy
  pub metadata : Json
  pub resolves : ResolvesTo (statements_of chain) metadata
  -- the good marks among those that are looked at, in order, and the least end of the chain and of theirs: each was judged by the keys of
  -- an issuer that has a valid chain
  pub ends : Ends
  pub are_ends : ends_of query last ≡ Some ends
  pub says_ends : HasEnds query chain ends
  pub good : GoodMarks
  pub issuers : (issuer : Identifier) (keys : List Jwk) → found_keys query others issuer ≡ Some keys → HasIssuerChain query issuer keys
  pub are_good : AreGood (judging_after query ends.anchor others) (looked_at ends.leaf.marks) (least_exp (statements_of chain)) good
  -- what is said and signed
  pub says : IsReplyOf signer (said_of query types chain metadata good) reply

-- the last of the leaf's rounds ended so, and had no fault
pub record LastEnds (query : Query) (leaf : List Course) (ended : End) : Type 0 where
  pub last : Course
  pub is_last : IsLast leaf last
  pub no_fault : ¬ HadFault last
  pub ends : EndsAs query last ended

-- the last of the leaf's rounds found no chain, and a call of the link failed in it
pub record LastFails (leaf : List Course) : Type 0 where
  pub last : Course
  pub is_last : IsLast leaf last
  pub no_path : ¬ FoundPath last
  pub fault : HadFault last

-- the last of the leaf's rounds found the chain of the reply
pub record LastReplies (query : Query) (types : List (List ℕ)) (signer : Signer) (trace : Trace) (leaf others : List Course) (reply : Reply) : Type 0 where
  pub last : Course
  pub is_last : IsLast leaf last
  pub is_reply : IsReply query types signer last others reply
  -- the trace shows each seal of the chain
  pub shown : ShowsSeals trace is_reply.chain

-- the keys that the trace tells are those of the query
abbrev pub asked_query : Situation → Trace → Query
asked_query here trace = query_of here trace.keys.keys

-- the result that a whole trace calls for
abbrev pub IsResult : (here : Situation) → Signer → (trace : Trace) → ToldWhole here trace → Result Reply Refusal → Type 0
IsResult here signer trace told (Ok reply) = LastReplies (asked_query here trace) here.request.types signer trace told.base.leaf told.base.others reply
IsResult here signer trace told (Err NoAnchor) = told.base.answer ≡ book.NoAnchor
IsResult here signer trace told (Err NotFound) = LastEnds (asked_query here trace) told.base.leaf end.NoLeaf
IsResult here signer trace told (Err PolicyOnly) = LastEnds (asked_query here trace) told.base.leaf end.PolicyOnly
IsResult here signer trace told (Err NoChain) = LastEnds (asked_query here trace) told.base.leaf end.NoChain
IsResult here signer trace told (Err (Budget calls paths)) = LastEnds (asked_query here trace) told.base.leaf (end.Budget calls paths)
IsResult here signer trace told (Err Unavailable) = LastFails told.base.leaf
IsResult here signer trace told (Err (Worn count)) = ⊥
IsResult here signer trace told (Err Memory) = ⊥

-- the trace is told whole, and the result is the one that it calls for
pub record IsWhole (here : Situation) (signer : Signer) (outcome : Outcome) : Type 0 where
  pub told : ToldWhole here outcome.trace
  pub result : IsResult here signer outcome.trace told outcome.result

-- what stands beside a reply is of its chain: until when this holds without the marks
pub record HasChainEnd (here : Situation) (signer : Signer) (trace : Trace) (reply : Reply) : Type 0 where
  pub whole : IsWhole here signer (record { result = Ok reply; trace = trace })
  pub exp : reply.chain_exp ≡ least_exp (statements_of whole.result.is_reply.chain)

-- and the configurations of the issuers of its marks, one for each mark, in their order: the first text of the chain that the last of the
-- issuer's rounds found, whose keys are those that the mark was judged by
pub record HasConfigs (here : Situation) (signer : Signer) (trace : Trace) (reply : Reply) : Type 0 where
  pub whole : IsWhole here signer (record { result = Ok reply; trace = trace })
  pub are : AreConfigs (found_texts whole.told.base.others) whole.result.is_reply.good.entries reply.configs
  pub keys : (issuer : Identifier)
      → found_keys (asked_query here trace) whole.told.base.others issuer ≡ keys_said (found_texts whole.told.base.others issuer)

-- what an outcome tells: of a call that ended for want of memory or at a worn object, what stands in the trace; of any other, all
abbrev pub Tells : Situation → Signer → Outcome → Result Reply Refusal → Type 0
Tells here signer outcome (Err Memory) = ToldInPart here outcome.trace
Tells here signer outcome (Err (Worn count)) = ToldInPart here outcome.trace
Tells here signer outcome result = IsWhole here signer outcome

-- the result is no want of memory, and no worn object
abbrev pub IsAnswered : Result Reply Refusal → Type 0
IsAnswered (Err Memory) = ⊥
IsAnswered (Err (Worn count)) = ⊥
IsAnswered result = Unit {0}

-- no chain, as the last round says without a fault
abbrev pub IsRefused : Result Reply Refusal → Type 0
IsRefused (Err NotFound) = Unit {0}
IsRefused (Err PolicyOnly) = Unit {0}
IsRefused (Err NoChain) = Unit {0}
IsRefused result = ⊥

abbrev pub IsReplied : Result Reply Refusal → Type 0
IsReplied (Ok reply) = Unit {0}
IsReplied (Err refusal) = ⊥

-- both are replies, or they are one refusal
abbrev pub SameCause : Result Reply Refusal → Result Reply Refusal → Type 0
SameCause (Ok reply) (Ok other) = Unit {0}
SameCause result other = result ≡ other
