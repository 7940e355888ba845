-- What stands between the steps of a call; no public clause cites it.
use Rattle.std.specs.Prelude.{◌≡◌, ℕ, List, length, All, Option, None, IsSome, IsTrue}
use Rattle.std.specs.List.{list_all}
use Rattle.fed_ports.specs.Exchanges.{Exchange}
use Rattle.fed_ports.specs.declared.network.Network.{Ghosts as NetworkGhosts}
use Rattle.http_plain.specs.declared.link.HttpLink.{HttpLink}
use Rattle.http_plain.specs.declared.route.Route.{Route}
use Rattle.http_plain.specs.Clients.{post_of}
use Rattle.http_plain.specs.Links.{AnswersBy, Listening, link_network, link_routes}
use Rattle.entity_statement.specs.Claims.{mark_utf8}
use Rattle.entity_statement.specs.Signed.{statement_of}
use Rattle.trust_mark.specs.Marks.{mark_of}
use Rattle.mark_status.specs.Posts.{Answering, Asked, asked_of}
use Rattle.node_files.specs.declared.parts.Parts.{Parts}
use Rattle.resolve_reply.specs.declared.reply.Reply.{Reply}
use Rattle.resolve_reply.specs.Replies.{SaysReply}
use Rattle.resolve_call.specs.CallSteps.{IsOpenCall}
use Rattle.heeded_reply.specs.declared.asker.LinkAsker.{LinkAsker}
use Rattle.heeded_reply.specs.declared.call.OpenHeeding.{OpenHeeding}
use Rattle.heeded_reply.specs.Claims.{claimed_marks}
use Rattle.heeded_reply.specs.Posted.{Wire, wire}

-- ---- an asker over a link

abbrev pub asker_link : {L : Type 0} → LinkAsker L → L
asker_link asker = asker.link

-- how it stands over a link that failed so often; it tells no posts
abbrev pub asked_over : {L : Type 0} → (L → ℕ) → LinkAsker L → Asked
asked_over faults asker = asked_of asker.calls (faults (asker_link asker)) None

-- what it says of one call is what its link says of it
abbrev pub posted_over : {L : Type 0} → Answering L → Answering (LinkAsker L)
posted_over posted old new url form result = posted (asker_link old) (asker_link new) url form result

-- what a link over a network, whose exchanges are told so and which listens so, says of one post: the routes stay, what was answered is by
-- the one exchange of the call, at most, and the network listens as before
abbrev pub link_posted : {N P : Type 0} → (N → Option (List Exchange)) → (N → Listening P) → Answering (HttpLink N)
link_posted exchanges listens old new url form result =
    (link_routes new ≡ link_routes old)
    × AnswersBy (post_of form) (link_routes old) url (exchanges (link_network old)) (exchanges (link_network new)) result
    × (listens (link_network new) ≡ listens (link_network old))

-- the network and the routes of an asker over such a link
abbrev pub asker_network : {N : Type 0} → LinkAsker (HttpLink N) → N
asker_network asker = link_network (asker_link asker)

abbrev pub asker_routes : {N : Type 0} → LinkAsker (HttpLink N) → List Route
asker_routes asker = link_routes (asker_link asker)

-- the exchanges and the failures that a network shows
abbrev pub wire_seen : {N P : Type 0} → NetworkGhosts N P → N → Wire
wire_seen shown net = wire (shown.exchanges net) (shown.faults net)

-- ---- a reply

-- the marks that a reply names read as marks, beside each stands a configuration that reads, and its claims can be sealed anew with any
-- of these marks
pub record IsHeedable (reply : Reply) : Type 0 where
  pub says : SaysReply reply.claims
  pub marks : All (λ entry. IsSome (mark_of entry.text)) (claimed_marks reply.claims)
  pub configs : All (λ config. IsSome (statement_of config)) reply.configs
  pub each : length (claimed_marks reply.claims) ≡ length reply.configs
  pub utf8 : IsTrue (list_all mark_utf8 (claimed_marks reply.claims))

-- ---- a call

-- a call of these parts is ready, and who signs and where hosts are reached is kept beside it
pub record IsOpenHeeding {N : Type 0} (parts : Parts) (open_call : OpenHeeding N) : Type 0 where
  pub call : IsOpenCall parts open_call.call
  pub signer : open_call.signer ≡ parts.signer
  pub routes : open_call.routes ≡ parts.routes
