-- A reply whose marks were asked about over a network (OpenID Federation 1.0 sections 7.3, 8.3.2 and 8.4).
use Rattle.std.specs.Prelude.{◌≡◌, ℕ, List, All}
use Rattle.http_plain.specs.declared.route.Route.{Route}
use Rattle.sealed.specs.Sealing.{IsSealedFor, sealed_text}
use Rattle.mark_status.specs.declared.heeded.Heeded.{Heeded}
use Rattle.mark_status.specs.declared.post.Post.{Post}
use Rattle.mark_status.specs.Heeding.{Heeding, Heeds, IsKept, IsKeptOrTold, faults_in, heeding_of}
use Rattle.mark_status.specs.Posts.{CountsFaults}
use Rattle.resolve_reply.specs.declared.reply.Reply.{Reply}
use Rattle.resolve_reply.specs.declared.signer.Signer.{Signer}
use Rattle.resolve_reply.specs.Replies.{reply_claims, reply_type}
use Rattle.resolve_round.specs.declared.request.ResolveRequest.{ResolveRequest}
use Rattle.resolve_round.specs.declared.trace.Trace.{Trace}
use Rattle.fed_resolver.specs.Outcomes.{HasChainEnd, HasConfigs, asked_query, said_of}
use Rattle.fed_resolver.specs.Told.{Situation, situation_of}
use Rattle.heeded_reply.specs.declared.reply.HeededReply.{HeededReply}
use Rattle.heeded_reply.specs.Claims.{claimed_marks, heeded_said, heeded_text}
use Rattle.heeded_reply.specs.Posted.{Posted, Wire}

-- what was heeded of some marks over a network
pub record HeedsOver (routes : List Route) (here : Heeding) (before now : Wire) (what : Heeded) : Type 0 where
  -- the marks are told by these posts, one for each mark whose issuer names an endpoint, in order
  pub posts : List Post
  pub tests : ℕ
  pub heeds : Heeds here posts tests what
  -- the exchanges that were added are theirs, and the network failed for those of them that failed alone
  pub posted : Posted routes posts before.exchanges now.exchanges
  pub faults : CountsFaults (faults_in what.tells) before.faults now.faults
  -- each mark that is kept was answered active by one of them, or its issuer names no endpoint
  pub kept : All (IsKept here posts) what.kept

-- a reply's marks were asked about at the moment, and its text is the one that this calls for
pub record HeedsMarks (signer : Signer) (routes : List Route) (t : ℕ) (reply : Reply) (before now : Wire) (heeded : HeededReply) : Type 0 where
  -- the marks are those that its claims name, and each is asked about by the configuration that stands beside it
  pub marks : heeded.marks ≡ claimed_marks reply.claims
  pub what : Heeded
  pub over : HeedsOver routes (heeding_of heeded.marks reply.configs t) before now what
  pub tells : heeded.tells ≡ what.tells
  -- a mark that isn't kept was told neither that it is active nor that it isn't asked about
  pub left_out : All (IsKeptOrTold heeded.marks what) heeded.marks
  -- of at most 262,144 bytes it is sealed by each set that has the signer's key
  pub text : heeded.text ≡ heeded_text signer reply what
  pub sealed : IsSealedFor signer.keys heeded.text

-- whose call it is: what is asked and when, who signs, and where hosts are reached
pub record Caller : Type 0 where
  pub here : Situation
  pub signer : Signer
  pub routes : List Route

abbrev pub caller_of : ResolveRequest → Signer → List Route → ℕ → Caller
caller_of request signer routes t = record { here = situation_of request signer t; signer = signer; routes = routes }

-- the marks of the reply that a call's trace calls for were asked about
pub record HeedsReply (caller : Caller) (trace : Trace) (reply : Reply) (before now : Wire) (heeded : HeededReply) : Type 0 where
  -- beside the reply stand the end of its chain, and for each of its marks the configuration that the mark was judged by
  pub chain : HasChainEnd caller.here caller.signer trace reply
  pub configs : HasConfigs caller.here caller.signer trace reply
  pub heeds : HeedsMarks caller.signer caller.routes caller.here.moment reply before now heeded
  -- the marks that were asked about are the good ones that the reply returns
  pub good : heeded.marks ≡ configs.whole.result.is_reply.good.entries
  -- what is sealed is what the reply says, but for the marks that aren't kept, and its end where there are such
  pub says : heeded.text
      ≡ sealed_text caller.signer.keys reply_type (reply_claims caller.signer.iss (heeded_said
      (said_of (asked_query caller.here trace) caller.here.request.types configs.whole.result.is_reply.chain configs.whole.result.is_reply.metadata configs.whole.result.is_reply.good)
      reply.chain_exp heeds.what))
