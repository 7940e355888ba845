-- What an asker over a link gave is what the exchanges of its network say.
use Rattle.std.proofs.Common.{◌≡◌, ℕ, List, [], ◌∷◌, Option, None, Result, Ok, Err, refl, sym, ap, ◌∙◌, subst, inl, inr, ⊎_elim}
use Rattle.std.specs.Prelude.{All, IfOk, OnErr}
use Rattle.fed_base.specs.declared.faults.Memory.{Memory as NoMemory}
use Rattle.fed_ports.specs.declared.link.LinkFault.{LinkFault}
use Rattle.fed_ports.specs.declared.link.LinkFault.TheVariants.{Failed, Memory}
use Rattle.fed_ports.specs.declared.page.Page.{Page}
use Rattle.fed_ports.specs.Exchanges.{Exchange}
use Rattle.http_plain.specs.declared.link.HttpLink.{HttpLink}
use Rattle.http_plain.specs.declared.route.Route.{Route}
use Rattle.http_plain.specs.Links.{LeavesPost, Listening, link_network}
use Rattle.mark_status.specs.declared.heeded.Heeded.{Heeded}
use Rattle.mark_status.specs.declared.post.Post.{Post}
use Rattle.mark_status.specs.Heeding.{Heeding, Heeds, HeedsBy, IsKept, around, faults_in}
use Rattle.mark_status.specs.Posts.{AnswersEach, BreaksOff, CountsFaults, TellsPost, Views, views_of}
use Rattle.heeded_reply.specs.declared.asker.LinkAsker.{LinkAsker}
use Rattle.heeded_reply.specs.Heeding.{HeedsOver}
use Rattle.heeded_reply.specs.Posted.{Posted, PostedSome, wire}
use Rattle.heeded_reply.specs.Stages.{asked_over, asker_network, asker_routes, link_posted, posted_over}

-- an asker that tells no posts tells each call rightly
pub untold : (url form : List ℕ) (result : Result Page LinkFault) → TellsPost url form result None None
untold url form (Ok page) = refl
untold url form (Err Failed) = refl
untold url form (Err Memory) = refl

module _ {N P : Type 0} (exchanges : N → Option (List Exchange)) (listens : N → Listening P) where
  abbrev told : LinkAsker (HttpLink N) → Option (List Exchange)
  told asker = exchanges (asker_network asker)

  abbrev heard : LinkAsker (HttpLink N) → Listening P
  heard asker = listens (asker_network asker)

  each : (posts : List Post) (old new : LinkAsker (HttpLink N)) → AnswersEach (posted_over (link_posted exchanges listens)) posts old new
      → (asker_routes new ≡ asker_routes old) × Posted (asker_routes old) posts (told old) (told new) × (heard new ≡ heard old)
  each [] old new same = (ap asker_routes same, ap told same, ap heard same)
  each (p ∷ posts) old new (mid, gave, rest) =
      let more = each posts mid new rest in
      (more.0 ∙ gave.0, (told mid, gave.1, subst (λ routes. Posted routes posts (told mid) (told new)) gave.0 more.1), more.2 ∙ gave.2)

  module _ (faults : N → ℕ) where
    abbrev link_faults : HttpLink N → ℕ
    link_faults link = faults (link_network link)

    abbrev views : Views (LinkAsker (HttpLink N))
    views = views_of (asked_over link_faults) (posted_over (link_posted exchanges listens))

    some : (most : ℕ) (old new : LinkAsker (HttpLink N)) → BreaksOff views most old new → PostedSome (asker_routes old) most (told old) (told new) × (heard new ≡ heard old)
    some most old new broken =
        let before = each broken.posts old broken.mid broken.made.each in (
          record {
            posts = broken.posts;
            few = broken.few;
            mid = told broken.mid;
            posted = before.1;
            last =
                ⊎_elim (λ same. inl (ap told same))
                (λ want. inr (want.url, want.body, subst (λ routes. LeavesPost want.body routes want.url (told broken.mid) (told new)) before.0 want.gave.1)) broken.last;
          },
          ⊎_elim (λ same. ap heard same) (λ want. want.gave.2) broken.last ∙ before.2,
        )

    -- ---- the network is put back

    module _ (routes : List Route) (before now : N) (first last : LinkAsker (HttpLink N)) (held : asker_network first ≡ before) (taken : asker_routes first ≡ routes) (back : now ≡ asker_network last) where
      posted-back : (posts : List Post) → Posted (asker_routes first) posts (told first) (told last) → Posted routes posts (exchanges before) (exchanges now)
      posted-back posts is =
          subst (λ r. Posted r posts (exchanges before) (exchanges now)) taken
          (subst (λ n. Posted (asker_routes first) posts (exchanges n) (exchanges now)) held
          (subst (λ n. Posted (asker_routes first) posts (told first) (exchanges n)) (sym back) is))

      some-put : (most : ℕ) → PostedSome (asker_routes first) most (told first) (told last) → PostedSome routes most (exchanges before) (exchanges now)
      some-put most is =
          subst (λ r. PostedSome r most (exchanges before) (exchanges now)) taken
          (subst (λ n. PostedSome (asker_routes first) most (exchanges n) (exchanges now)) held
          (subst (λ n. PostedSome (asker_routes first) most (told first) (exchanges n)) (sym back) is))

      faults-back : (failed : ℕ) → CountsFaults failed (faults (asker_network first)) (faults (asker_network last)) → CountsFaults failed (faults before) (faults now)
      faults-back failed is =
          subst (λ n. CountsFaults failed (faults n) (faults now)) held (subst (λ n. CountsFaults failed (faults (asker_network first)) (faults n)) (sym back) is)

      listens-back : heard last ≡ heard first → listens now ≡ listens before
      listens-back is = ap listens back ∙ is ∙ ap listens held

      module _ (here : Heeding) (tests_before tests_now : ℕ) where
        abbrev by_call : Heeded → Type 0
        by_call what = HeedsBy views here (around first tests_before) (around last tests_now) what

        pub heeds-back : (result : Result Heeded NoMemory) → IfOk result by_call
            → IfOk result (λ what. (posts : List Post) (tests : ℕ) → Heeds here posts tests what → All (IsKept here posts) what.kept)
            → IfOk result (λ what. CountsFaults (faults_in what.tells) (faults (asker_network first)) (faults (asker_network last)))
            → IfOk result (HeedsOver routes here (wire (exchanges before) (faults before)) (wire (exchanges now) (faults now)))
        heeds-back (Ok what) by kept counted = record {
          posts = by.posts;
          tests = by.tests;
          heeds = by.heeds;
          posted = posted-back by.posts (each by.posts first last by.made.each).1;
          faults = faults-back (faults_in what.tells) counted;
          kept = kept by.posts by.tests by.heeds;
        }
        heeds-back (Err e) by kept counted = tt

        pub still-back : (result : Result Heeded NoMemory) (most : ℕ) → IfOk result by_call → OnErr result (BreaksOff views most first last) → listens now ≡ listens before
        still-back (Ok what) most by broken = listens-back (each by.posts first last by.made.each).2
        still-back (Err e) most by broken = listens-back (some most first last broken).1

      pub some-back : (result : Result Heeded NoMemory) (most : ℕ) → OnErr result (BreaksOff views most first last) → OnErr result (PostedSome routes most (exchanges before) (exchanges now))
      some-back (Ok what) most broken = tt
      some-back (Err e) most broken = some-put most (some most first last broken).0
