use Rattle.std.proofs.Common.{◌≡◌, ◌≤◌, ℕ, List, [], ◌∷◌, ◌++◌, length, Ok, Err, refl, ap, ◌∙◌, subst, inl, inr, rules}
use Rattle.std.specs.Prelude.{slice_set}
use Rattle.std.proofs.lemmas.Result.{err_from_is_err_and}
use Rattle.fed_ports.specs.declared.page.Page.{Page}
use Rattle.fed_ports.specs.declared.link.LinkFault.TheVariants.{Failed, Memory}
use Rattle.resolve_round.specs.declared.trace.Ask.{Ask}
use Rattle.resolve_round.specs.declared.trace.Got.{Got}
use Rattle.resolve_round.specs.declared.trace.Got.TheVariants.{Fetched, Fault}
use Rattle.resolve_round.specs.Asking.{with_ask}
use Rattle.resolve_round.specs.Linking.{link_seen}
use Rattle.resolve_round.proofs.GettingLaws.{ask_of}
use Rattle.resolve_round.proofs.Lasts.{last-within, popped-last, put-last}
use Rattle.resolve_round.proofs.LinkLaws.{few-faults, rose-failed, same-answered, same-search, same-wanting, served, uses-fault, uses-memory, uses-none, uses-page}
use Rattle.resolve_round.proofs.WalkLaws.{stumbled-one, stumbled-still, walked-none, walked-one}
use Rattle.resolve_round.proofs.asking.fetch.Goals as goal

-- the ask stands in the room that was taken
asked : (old pushed new : List Ask) (x : Ask) (at : ℕ) (told url : List ℕ) (got : Got) → at ≡ length old → pushed ≡ old ++ x ∷ [] → new ≡ slice_set pushed at (ask_of told got) → told ≡ url
    → new ≡ old ++ ask_of url got ∷ []
asked old pushed new x at told url got place push is same = put-last old pushed new x (ask_of told got) at place push is ∙ ap (λ u. old ++ ask_of u got ∷ []) same

-- the page whose bytes are shared is the page
of_page : (pushed new : List Ask) (at : ℕ) (told : List ℕ) (shared page : Page) → shared ≡ page → new ≡ slice_set pushed at (ask_of told (Fetched shared))
    → new ≡ slice_set pushed at (ask_of told (Fetched page))
of_page pushed new at told shared page same is = subst (λ p. new ≡ slice_set pushed at (ask_of told (Fetched p))) same is

pub set-requires : goal.set-requires
set-requires g c = last-within c.args.search.now.asks c.push.new.self _ c.len-at.result c.len-at.ensures c.in_ok-push.ensures.ok

pub set-requires-in-Err-Failed : goal.set-requires-in-Err-Failed
set-requires-in-Err-Failed g c = last-within c.args.search.now.asks c.push.new.self _ c.len-at.result c.len-at.ensures c.in_ok-push.ensures.ok

pub overflow_add-search-in-Err-Failed-2 : goal.overflow_add-search-in-Err-Failed-2
overflow_add-search-in-Err-Failed-2 g c =
    let few : c.args.search.now.faults ≤ c.args.search.now.calls = few-faults c.args.search.now c.requires.counts in
    let room = c.requires.room in
    search rules

pub returns-in_err-told-clause-tried : goal.returns-in_err-told-clause-tried
returns-in_err-told-clause-tried g c =
    let p = err_from_is_err_and c.from_residual.result c.from_residual.ensures.1 in
    rw p.1 (inl (uses-none (link_seen (g.L.Link.calls c.args.link.now) (g.L.Link.link_faults c.args.link.now) (g.L.Link.web c.args.link.now)) c.args.search.now c.args.search.now refl))

pub returns-in_err-push-clause-tried : goal.returns-in_err-push-clause-tried
returns-in_err-push-clause-tried g c =
    let p = err_from_is_err_and c.from_residual-in_err-push.result c.from_residual-in_err-push.ensures.1 in
    rw p.1
    (inl (uses-none (link_seen (g.L.Link.calls c.args.link.now) (g.L.Link.link_faults c.args.link.now) (g.L.Link.web c.args.link.now)) c.args.search.now _
    (same-search _ c.args.search.now refl c.in_err-push.ensures.err refl refl refl refl refl)))

pub returns-in-Ok-clause-ok : goal.returns-in-Ok-clause-ok
returns-in-Ok-clause-ok g c =
    let is : c.get.result ≡ Ok c.in-Ok.page = c.in-Ok.is in
    let kept = of_page c.push.new.self c.set.new.self c.len-at.result c.in_ok-told.told c.shared.result c.in-Ok.page c.shared.ensures c.set.ensures in
    let asks = asked c.args.search.now.asks c.push.new.self c.set.new.self _ c.len-at.result c.in_ok-told.told c.args.url.now (Fetched c.in-Ok.page) c.len-at.ensures c.in_ok-push.ensures.ok kept c.in_ok-told.ensures in
    record {
      got = Fetched c.in-Ok.page;
      is = same-search _ (with_ask c.args.search.now (ask_of c.args.url.now (Fetched c.in-Ok.page))) refl asks refl refl refl refl refl;
      of_web = served (g.L.Link.web c.args.link.now) c.args.url.now c.in-Ok.page c.get.result c.get.ensures.page is;
    }

pub returns-in-Ok-clause-used : goal.returns-in-Ok-clause-used
returns-in-Ok-clause-used g c =
    let is : c.get.result ≡ Ok c.in-Ok.page = c.in-Ok.is in
    let kept = of_page c.push.new.self c.set.new.self c.len-at.result c.in_ok-told.told c.shared.result c.in-Ok.page c.shared.ensures c.set.ensures in
    let asks = asked c.args.search.now.asks c.push.new.self c.set.new.self _ c.len-at.result c.in_ok-told.told c.args.url.now (Fetched c.in-Ok.page) c.len-at.ensures c.in_ok-push.ensures.ok kept c.in_ok-told.ensures in
    uses-page (link_seen (g.L.Link.calls c.args.link.now) (g.L.Link.link_faults c.args.link.now) (g.L.Link.web c.args.link.now))
    (link_seen (g.L.Link.calls c.get.new.self) (g.L.Link.link_faults c.get.new.self) (g.L.Link.web c.get.new.self)) c.args.search.now _ c.args.url.now c.get.ensures.calls c.get.ensures.web c.in-Ok.page
    (same-search _ (with_ask c.args.search.now (ask_of c.args.url.now (Fetched c.in-Ok.page))) refl asks refl refl refl refl refl)
    (served (g.L.Link.web c.args.link.now) c.args.url.now c.in-Ok.page c.get.result c.get.ensures.page is)
    (same-answered (g.L.Link.link_faults c.args.link.now) (g.L.Link.link_faults c.get.new.self) c.get.result c.get.ensures.cause c.in-Ok.page is)

pub returns-in-Err-Failed-clause-ok : goal.returns-in-Err-Failed-clause-ok
returns-in-Err-Failed-clause-ok g c =
    let asks = asked c.args.search.now.asks c.push.new.self c.set-in-Err-Failed.new.self _ c.len-at.result c.in_ok-told.told c.args.url.now Fault c.len-at.ensures c.in_ok-push.ensures.ok c.set-in-Err-Failed.ensures c.in_ok-told.ensures in
    record {
      got = Fault;
      is = same-search _ (with_ask c.args.search.now (ask_of c.args.url.now Fault)) refl asks refl refl refl refl refl;
      of_web = tt;
    }

pub returns-in-Err-Failed-clause-used : goal.returns-in-Err-Failed-clause-used
returns-in-Err-Failed-clause-used g c =
    let is : c.get.result ≡ Err Failed = cc in
    let asks = asked c.args.search.now.asks c.push.new.self c.set-in-Err-Failed.new.self _ c.len-at.result c.in_ok-told.told c.args.url.now Fault c.len-at.ensures c.in_ok-push.ensures.ok c.set-in-Err-Failed.ensures c.in_ok-told.ensures in
    uses-fault (link_seen (g.L.Link.calls c.args.link.now) (g.L.Link.link_faults c.args.link.now) (g.L.Link.web c.args.link.now))
    (link_seen (g.L.Link.calls c.get.new.self) (g.L.Link.link_faults c.get.new.self) (g.L.Link.web c.get.new.self)) c.args.search.now _ c.args.url.now c.get.ensures.calls c.get.ensures.web
    (same-search _ (with_ask c.args.search.now (ask_of c.args.url.now Fault)) refl asks refl refl refl refl refl)
    c.get.ensures.cause.later
    (rose-failed (g.L.Link.link_faults c.args.link.now) (g.L.Link.link_faults c.get.new.self) c.get.result c.get.ensures.cause is)

pub returns-in-Err-Memory-clause-err : goal.returns-in-Err-Memory-clause-err
returns-in-Err-Memory-clause-err g c =
    same-search _ c.args.search.now refl (popped-last c.args.search.now.asks c.push.new.self c.pop.new.self _ c.pop.result c.in_ok-push.ensures.ok c.pop.ensures) refl refl refl refl refl

pub returns-in-Err-Memory-clause-tried : goal.returns-in-Err-Memory-clause-tried
returns-in-Err-Memory-clause-tried g c =
    let is : c.get.result ≡ Err Memory = cc in
    inr (uses-memory (link_seen (g.L.Link.calls c.args.link.now) (g.L.Link.link_faults c.args.link.now) (g.L.Link.web c.args.link.now))
    (link_seen (g.L.Link.calls c.get.new.self) (g.L.Link.link_faults c.get.new.self) (g.L.Link.web c.get.new.self)) c.args.search.now _ c.args.url.now c.get.ensures.calls c.get.ensures.web
    (same-search _ c.args.search.now refl (popped-last c.args.search.now.asks c.push.new.self c.pop.new.self _ c.pop.result c.in_ok-push.ensures.ok c.pop.ensures) refl refl refl refl refl)
    (same-wanting (g.L.Link.link_faults c.args.link.now) (g.L.Link.link_faults c.get.new.self) c.get.result c.get.ensures.cause is))

-- ---- what the link gave

pub returns-in-Ok-clause-walked : goal.returns-in-Ok-clause-walked
returns-in-Ok-clause-walked g c =
    let is : c.get.result ≡ Ok c.in-Ok.page = c.in-Ok.is in
    let kept = of_page c.push.new.self c.set.new.self c.len-at.result c.in_ok-told.told c.shared.result c.in-Ok.page c.shared.ensures c.set.ensures in
    let asks = asked c.args.search.now.asks c.push.new.self c.set.new.self _ c.len-at.result c.in_ok-told.told c.args.url.now (Fetched c.in-Ok.page) c.len-at.ensures c.in_ok-push.ensures.ok kept c.in_ok-told.ensures in
    walked-one g.L.Link.gave c.args.link.now c.get.new.self c.args.search.now.asks _ (ask_of c.args.url.now (Fetched c.in-Ok.page)) asks
    (subst (λ r. g.L.Link.gave c.args.link.now c.get.new.self c.args.url.now r) is c.get.ensures.gave)

pub returns-in-Err-Failed-clause-walked : goal.returns-in-Err-Failed-clause-walked
returns-in-Err-Failed-clause-walked g c =
    let is : c.get.result ≡ Err Failed = cc in
    let asks = asked c.args.search.now.asks c.push.new.self c.set-in-Err-Failed.new.self _ c.len-at.result c.in_ok-told.told c.args.url.now Fault c.len-at.ensures c.in_ok-push.ensures.ok c.set-in-Err-Failed.ensures c.in_ok-told.ensures in
    walked-one g.L.Link.gave c.args.link.now c.get.new.self c.args.search.now.asks _ (ask_of c.args.url.now Fault) asks
    (subst (λ r. g.L.Link.gave c.args.link.now c.get.new.self c.args.url.now r) is c.get.ensures.gave)

pub returns-in_err-told-clause-stumbled : goal.returns-in_err-told-clause-stumbled
returns-in_err-told-clause-stumbled g c =
    let p = err_from_is_err_and c.from_residual.result c.from_residual.ensures.1 in
    rw p.1
    (stumbled-still g.L.Link.gave c.args.link.now c.args.link.now c.args.search.now.asks c.args.search.now.asks
    (walked-none g.L.Link.gave c.args.link.now c.args.link.now c.args.search.now.asks c.args.search.now.asks refl refl))

pub returns-in_err-push-clause-stumbled : goal.returns-in_err-push-clause-stumbled
returns-in_err-push-clause-stumbled g c =
    let p = err_from_is_err_and c.from_residual-in_err-push.result c.from_residual-in_err-push.ensures.1 in
    rw p.1
    (stumbled-still g.L.Link.gave c.args.link.now c.args.link.now c.args.search.now.asks c.push.new.self
    (walked-none g.L.Link.gave c.args.link.now c.args.link.now c.args.search.now.asks c.push.new.self refl c.in_err-push.ensures.err))

pub returns-in-Err-Memory-clause-stumbled : goal.returns-in-Err-Memory-clause-stumbled
returns-in-Err-Memory-clause-stumbled g c =
    let is : c.get.result ≡ Err Memory = cc in
    stumbled-one g.L.Link.gave c.args.link.now c.get.new.self c.args.search.now.asks c.pop.new.self c.args.url.now
    (popped-last c.args.search.now.asks c.push.new.self c.pop.new.self _ c.pop.result c.in_ok-push.ensures.ok c.pop.ensures)
    (subst (λ r. g.L.Link.gave c.args.link.now c.get.new.self c.args.url.now r) is c.get.ensures.gave)
