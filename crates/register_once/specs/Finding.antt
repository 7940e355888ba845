-- What a node finds of an entity's trust chain: the answer of one resolve call.
use Rattle.std.specs.Prelude.{◌≡◌, [], Some, IfOk, Result, Ok, Err}
use Rattle.fed_base.specs.declared.faults.Memory.{Memory as NoMemory}
use Rattle.entity_statement.specs.Claims.{Identifier}
use Rattle.resolve_reply.specs.declared.reply.Reply.{Reply}
use Rattle.resolve_reply.specs.Replies.{chain_of}
use Rattle.resolve_round.specs.declared.request.ResolveRequest.{ResolveRequest}
use Rattle.fed_resolver.specs.declared.outcome.Refusal.{Refusal}
use Rattle.fed_resolver.specs.declared.outcome.Refusal.TheVariants.{NoAnchor, NotFound, PolicyOnly, NoChain, Unavailable, Budget, Worn}
use Rattle.client_register.specs.declared.found.Found.{Found}
use Rattle.client_register.specs.declared.found.Found.TheVariants as found
use Rattle.client_register.specs.Finders.{FinderSeen, HasAnswered}
use Rattle.register_once.specs.declared.held_finder.HeldFinder.{HeldFinder}

-- ---- what is asked, and what is found by it

-- an entity is asked for, with all types of its metadata (OpenID Federation 1.0 section 8.3.1)
abbrev pub request_for : Identifier → Identifier → ResolveRequest
request_for leaf anchor = record { sub = leaf; anchor = anchor; types = [] }

-- the chain of the reply's claims (section 8.3.2, `trust_chain`); a refusal says that there is no chain, but for that of a search which
-- ended at a bound or had a fault
abbrev pub IsFoundBy : Result Reply Refusal → Found → Type 0
IsFoundBy (Ok reply) (found.Chain texts) = chain_of reply.claims ≡ Some texts
IsFoundBy (Err NoAnchor) found.NoChain = Unit {0}
IsFoundBy (Err NotFound) found.NoChain = Unit {0}
IsFoundBy (Err PolicyOnly) found.NoChain = Unit {0}
IsFoundBy (Err NoChain) found.NoChain = Unit {0}
IsFoundBy (Err (Worn count)) found.NoChain = Unit {0}
IsFoundBy (Err (Budget calls paths)) found.Spent = Unit {0}
IsFoundBy (Err Unavailable) found.Fault = Unit {0}
IsFoundBy result answer = ⊥

-- or memory was wanting, in the call or for its chain
abbrev pub IsFoundIn : Result Reply Refusal → Result Found NoMemory → Type 0
IsFoundIn result (Ok answer) = IsFoundBy result answer
IsFoundIn result (Err memory) = Unit {0}

-- ---- the finder

-- what the finder tells of its calls
abbrev pub held_seen : HeldFinder → FinderSeen
held_seen finder = record { calls = finder.calls; faults = finder.faults; last = finder.last }

-- it was asked once, and an answer is the one that it held
abbrev pub HasGiven : HeldFinder → HeldFinder → Identifier → Result Found NoMemory → Type 0
HasGiven before after entity answer = HasAnswered (held_seen before) (held_seen after) answer × IfOk answer (λ found. before.held ≡ Some found)
