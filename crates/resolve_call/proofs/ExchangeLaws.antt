-- What a link over a network gave is what its exchanges say, and the network listens as before.
use Rattle.std.proofs.Common.{◌≡◌, ℕ, List, [], ◌∷◌, Option, Result, Ok, Err, sym, ap, ◌∙◌, subst, inl, inr, ⊎_elim}
use Rattle.fed_ports.specs.Exchanges.{Exchange}
use Rattle.http_plain.specs.declared.link.HttpLink.{HttpLink}
use Rattle.http_plain.specs.Links.{Leaves, Listening, link_network, link_routes}
use Rattle.resolve_reply.specs.declared.reply.Reply.{Reply}
use Rattle.resolve_round.specs.declared.trace.Ask.{Ask}
use Rattle.resolve_round.specs.declared.trace.Got.{Got}
use Rattle.resolve_round.specs.declared.trace.Got.TheVariants.{Hit, Fetched, Fault}
use Rattle.resolve_round.specs.declared.trace.Trace.{Trace}
use Rattle.resolve_round.specs.Traces.{asks_in}
use Rattle.resolve_round.specs.Walking.{GaveEach, GaveGot, Stumbled}
use Rattle.fed_resolver.specs.declared.outcome.Refusal.{Refusal}
use Rattle.fed_resolver.specs.declared.outcome.Refusal.TheVariants.{NoAnchor, NotFound, PolicyOnly, NoChain, Unavailable, Budget, Worn, Memory}
use Rattle.fed_resolver.specs.Calls.{GaveAll}
use Rattle.resolve_call.specs.Exchanged.{BrokeOff, Exchanged, ExchangedBy, ExchangedFor, link_gave}

module _ {N P : Type 0} (exchanges : N → Option (List Exchange)) (listens : N → Listening P) where
  abbrev told : HttpLink N → Option (List Exchange)
  told link = exchanges (link_network link)

  one : (url : List ℕ) (got : Got) (old mid : HttpLink N) → GaveGot (link_gave exchanges listens) url got old mid
      → (link_routes mid ≡ link_routes old) × ExchangedFor (link_routes old) url got (told old) (told mid)
  one url (Hit proven) old mid gave = (ap link_routes gave, ap told gave)
  one url (Fetched page) old mid gave = (gave.0, gave.1)
  one url Fault old mid gave = (gave.0, gave.1)

  each : (asks : List Ask) (old new : HttpLink N) → GaveEach (link_gave exchanges listens) asks old new
      → (link_routes new ≡ link_routes old) × Exchanged (link_routes old) asks (told old) (told new)
  each [] old new same = (ap link_routes same, ap told same)
  each (ask ∷ asks) old new (mid, got, rest) =
      let here = one ask.url ask.got old mid got in
      let more = each asks mid new rest in
      (more.0 ∙ here.0, (told mid, here.1, subst (λ routes. Exchanged routes asks (told mid) (told new)) here.0 more.1))

  stumbled : (asks : List Ask) (old new : HttpLink N) → Stumbled (link_gave exchanges listens) old new [] asks → BrokeOff (link_routes old) asks (told old) (told new)
  stumbled asks old new is =
      let before = each is.walked.more old is.at is.walked.gave_each in
      record {
        mid = told is.at;
        before = subst (λ asked. Exchanged (link_routes old) asked (told old) (told is.at)) (sym is.walked.are) before.1;
        last = ⊎_elim (λ same. inl (ap told same)) (λ one_more. inr (one_more.0, subst (λ routes. Leaves routes one_more.0 (told is.at) (told new)) before.0 one_more.1.1)) is.last;
      }

  pub exchanged : (old new : HttpLink N) (trace : Trace) (result : Result Reply Refusal) → GaveAll (link_gave exchanges listens) old new trace result
      → ExchangedBy (link_routes old) (asks_in trace.searches) (told old) (told new) result
  exchanged old new trace (Ok reply) gave = (each (asks_in trace.searches) old new gave).1
  exchanged old new trace (Err NoAnchor) gave = (each (asks_in trace.searches) old new gave).1
  exchanged old new trace (Err NotFound) gave = (each (asks_in trace.searches) old new gave).1
  exchanged old new trace (Err PolicyOnly) gave = (each (asks_in trace.searches) old new gave).1
  exchanged old new trace (Err NoChain) gave = (each (asks_in trace.searches) old new gave).1
  exchanged old new trace (Err Unavailable) gave = (each (asks_in trace.searches) old new gave).1
  exchanged old new trace (Err (Budget calls paths)) gave = (each (asks_in trace.searches) old new gave).1
  exchanged old new trace (Err (Worn count)) gave = stumbled (asks_in trace.searches) old new gave
  exchanged old new trace (Err Memory) gave = stumbled (asks_in trace.searches) old new gave

  -- ---- the network listens as before

  abbrev Stays : HttpLink N → HttpLink N → Type 0
  Stays old new = listens (link_network new) ≡ listens (link_network old)

  one-stays : (url : List ℕ) (got : Got) (old mid : HttpLink N) → GaveGot (link_gave exchanges listens) url got old mid → Stays old mid
  one-stays url (Hit proven) old mid gave = ap (λ link. listens (link_network link)) gave
  one-stays url (Fetched page) old mid gave = gave.2
  one-stays url Fault old mid gave = gave.2

  each-stays : (asks : List Ask) (old new : HttpLink N) → GaveEach (link_gave exchanges listens) asks old new → Stays old new
  each-stays [] old new same = ap (λ link. listens (link_network link)) same
  each-stays (ask ∷ asks) old new (mid, got, rest) = each-stays asks mid new rest ∙ one-stays ask.url ask.got old mid got

  stumbled-stays : (asks : List Ask) (old new : HttpLink N) → Stumbled (link_gave exchanges listens) old new [] asks → Stays old new
  stumbled-stays asks old new is =
      let last : Stays is.at new = ⊎_elim (λ same. ap (λ link. listens (link_network link)) same) (λ one_more. one_more.1.2) is.last in
      last ∙ each-stays is.walked.more old is.at is.walked.gave_each

  pub stayed : (old new : HttpLink N) (trace : Trace) (result : Result Reply Refusal) → GaveAll (link_gave exchanges listens) old new trace result → Stays old new
  stayed old new trace (Ok reply) gave = each-stays (asks_in trace.searches) old new gave
  stayed old new trace (Err NoAnchor) gave = each-stays (asks_in trace.searches) old new gave
  stayed old new trace (Err NotFound) gave = each-stays (asks_in trace.searches) old new gave
  stayed old new trace (Err PolicyOnly) gave = each-stays (asks_in trace.searches) old new gave
  stayed old new trace (Err NoChain) gave = each-stays (asks_in trace.searches) old new gave
  stayed old new trace (Err Unavailable) gave = each-stays (asks_in trace.searches) old new gave
  stayed old new trace (Err (Budget calls paths)) gave = each-stays (asks_in trace.searches) old new gave
  stayed old new trace (Err (Worn count)) gave = stumbled-stays (asks_in trace.searches) old new gave
  stayed old new trace (Err Memory) gave = stumbled-stays (asks_in trace.searches) old new gave
