-- Where the ask of a URL stands.
use Rattle.std.proofs.Common.{◌≡◌, ◌≤◌, ◌<◌, ℕ, zero, suc, List, [], ◌∷◌, ◌++◌, length, get_or, Bool, true, false, not, Option, Some, None, refl, sym, ap, ◌∙◌, subst, inl, inr, ⊎_elim, arith, bytes_eq, true≢false}
use Rattle.std.specs.List.{position}
use Rattle.std.specs.Prelude.{find, slice_get}
use Rattle.fed_json.proofs.Order.{equal-bytes_eq}
use Rattle.fed_ports.specs.Webs.{Web}
use Rattle.chain_climb.specs.Elements.{Among}
use Rattle.chain_climb.proofs.Elements.{among-right}
use Rattle.statement_shelf.proofs.BookLaws.{none-passes}
use Rattle.statement_shelf.specs.declared.calls.Proven.{Proven}
use Rattle.statement_shelf.specs.declared.calls.ShelfCall.TheVariants.{Look}
use Rattle.statement_shelf.specs.declared.calls.ShelfReply.TheVariants.{Miss}
use Rattle.resolve_round.specs.declared.aim.Aim.{Aim}
use Rattle.resolve_round.specs.declared.getting.Place.{Place}
use Rattle.resolve_round.specs.declared.trace.Ask.{Ask}
use Rattle.resolve_round.specs.declared.trace.Got.{Got}
use Rattle.resolve_round.specs.declared.trace.Got.TheVariants as got
use Rattle.resolve_round.specs.declared.trace.Search.{Search}
use Rattle.resolve_round.specs.declared.trace.Trace.{Trace}
use Rattle.resolve_round.specs.Asking.{HasFetched, IsOfWeb, with_ask}
use Rattle.resolve_round.specs.Courses.{is_call, is_hit}
use Rattle.resolve_round.specs.Getting.{AddsLooks, IsPlace, IsSpentAt, NotAsked, Point, TakesHit, TakesMiss, if_looks}
use Rattle.resolve_round.specs.Knowing.{HoldsSoFar, with_search}
use Rattle.resolve_round.specs.Told.{ProvesGood}
use Rattle.resolve_round.specs.Traces.{look_for}
use Rattle.resolve_round.proofs.GettingLaws.{ask_of, good-asked, holds-asked, new-first, not-asked, place-asked, position-first}
use Rattle.resolve_round.proofs.Lasts.{last-there}

-- an ask that was made
pub place-before : (aim : Aim) (url : List ℕ) (p : Point) (at : ℕ) (found : Option ℕ) → found ≡ position (λ (ask : Ask). bytes_eq ask.url url) p.search.asks → found ≡ Some at → IsPlace aim url p p (record { at = at; fresh = false })
place-before aim url p at found is some =
    let first = position-first (λ (ask : Ask). bytes_eq ask.url url) p.search.asks at (sym is ∙ some) in
    record {
      ask = first.item;
      there = first.there;
      among = first.among;
      first = first.found;
      at = equal-bytes_eq (first.item).url url first.passes;
      came = inl (record { asked = place-asked url p.search.asks at first; same = refl; before = refl });
      room = λ now. absurd (true≢false (sym now));
    }

-- a URL that has no place wasn't asked
pub place-none : (url : List ℕ) (search : Search) (found : Option ℕ) → found ≡ position (λ (ask : Ask). bytes_eq ask.url url) search.asks → found ≡ None → NotAsked url search
place-none url search found is none = not-asked url search.asks (none-passes (λ (ask : Ask). bytes_eq ask.url url) search.asks (sym is ∙ none))

module _ (aim : Aim) (url : List ℕ) (old new : Point) (at : ℕ) (fresh : NotAsked url old.search) (place : at ≡ length old.search.asks) where
  -- a new ask
  new_place : (now : Bool) (g : Got) → new.search ≡ with_ask old.search (ask_of url g) → now ≡ is_call (ask_of url g) → (aim.looks ≡ false → is_hit (ask_of url g) ≡ false)
      → AddsLooks (if_looks aim.looks (look_for old.trace.moment (ask_of url g))) old.trace.events new.trace.events → (now ≡ true → old.search.calls < aim.bounds.calls)
      → IsPlace aim url old new (record { at = at; fresh = now })
  new_place now g is call unhit added room =
      let asks : new.search.asks ≡ old.search.asks ++ ask_of url g ∷ [] = ap (λ (s : Search). s.asks) is in
      record {
        ask = ask_of url g;
        there = last-there old.search.asks new.search.asks (ask_of url g) at place asks;
        among = subst (Among (ask_of url g)) (sym asks) (among-right _ old.search.asks (ask_of url g ∷ []) (inl refl));
        first = ap (find (λ (a : Ask). bytes_eq a.url url)) asks ∙ new-first old.search (ask_of url g) fresh;
        at = refl;
        came = inr (record { fresh = fresh; is = is; unhit = unhit; added = added }, call);
        room = room;
      }

  -- one of a text that the cache told
  pub place-told : aim.looks ≡ true → TakesHit url old new → IsPlace aim url old new (record { at = at; fresh = false })
  place-told looks hit =
      new_place false (got.Hit hit.proven) hit.is refl (λ nay. absurd (true≢false (sym looks ∙ nay)))
      (subst (λ b. AddsLooks (if_looks b (look_for old.trace.moment (ask_of url (got.Hit hit.proven)))) old.trace.events new.trace.events) (sym looks) hit.added)
      (λ now. absurd (true≢false (sym now)))

  fetched_place : (mid : Search) (web : Option Web) (g : Got) → IsOfWeb web url g → mid ≡ old.search → new.search ≡ with_ask mid (ask_of url g) → old.search.calls < aim.bounds.calls
      → AddsLooks (if_looks aim.looks (Look url old.trace.moment, Miss)) old.trace.events new.trace.events
      → IsPlace aim url old new (record { at = at; fresh = true })
  fetched_place mid web (got.Hit proven) of same is room added = absurd of
  fetched_place mid web (got.Fetched page) of same is room added = new_place true (got.Fetched page) (is ∙ ap (λ s. with_ask s (ask_of url (got.Fetched page))) same) refl (λ nay. refl) added (λ now. room)
  fetched_place mid web got.Fault of same is room added = new_place true got.Fault (is ∙ ap (λ s. with_ask s (ask_of url (got.Fault))) same) refl (λ nay. refl) added (λ now. room)

  -- one of a page that was asked of the link
  pub place-fetched : (mid : Search) (web : Option Web) → HasFetched web mid url new.search → mid ≡ old.search → old.search.calls < aim.bounds.calls
      → AddsLooks (if_looks aim.looks (Look url old.trace.moment, Miss)) old.trace.events new.trace.events
      → IsPlace aim url old new (record { at = at; fresh = true })
  place-fetched mid web has same room added = fetched_place mid web has.got has.of_web same has.is room added

-- the item at a place is the one that stands there
pub place-within : {X : Type 0} (xs : List X) (at : ℕ) (x : X) → slice_get xs at ≡ Some x → at < length xs
place-within [] at x is = cc is
place-within (y ∷ xs) zero x is = omega arith
place-within (y ∷ xs) (suc at) x is = let rest = place-within xs at x is in omega (arith, rest)

pub place-item : {X : Type 0} (xs : List X) (at : ℕ) (x item : X) → slice_get xs at ≡ Some x → item ≡ get_or xs at item → item ≡ x
place-item [] at x item there is = cc there
place-item (y ∷ xs) zero x item there is = is ∙ cc there
place-item (y ∷ xs) (suc at) x item there is = place-item xs at x item there is

called_by : (now : Bool) (a : Ask) → now ≡ is_call a → now ≡ true → is_hit a ≡ false
called_by now a call aye = not_true (is_hit a) (sym call ∙ aye)
  where
    not_true : (b : Bool) → not b ≡ true → b ≡ false
    not_true true is = absurd (true≢false (sym is))
    not_true false is = refl

-- what was asked of the link just now is no hit
pub place-call : (aim : Aim) (url : List ℕ) (old new : Point) (place : Place) (is : IsPlace aim url old new place) → place.fresh ≡ true → is_hit is.ask ≡ false
place-call aim url old new place is now =
    ⊎_elim (λ was. absurd (true≢false (sym now ∙ was.before))) (λ takes. called_by place.fresh is.ask takes.1 now) is.came

-- all calls were made
pub spent-at : (aim : Aim) (url : List ℕ) (old new : Point) → NotAsked url old.search → TakesMiss aim.looks url old new → aim.bounds.calls ≤ new.search.calls → IsSpentAt aim.looks aim.bounds.calls url old new
spent-at aim url old new fresh miss all = record {
  fresh = fresh;
  all = subst (λ (s : Search). aim.bounds.calls ≤ s.calls) miss.is all;
  is = miss.is;
  added = miss.added;
}

-- there are some left
pub room-left : (aim : Aim) (url : List ℕ) (old new : Point) → TakesMiss aim.looks url old new → new.search.calls < aim.bounds.calls → old.search.calls < aim.bounds.calls
room-left aim url old new miss room = subst (λ (s : Search). s.calls < aim.bounds.calls) miss.is room

-- what is true stays so when a page is asked of the link
no_hit : (web : Option Web) (url : List ℕ) (g : Got) (proven : Proven) → IsOfWeb web url g → g ≡ got.Hit proven → ⊥
no_hit web url (got.Hit p) proven of same = of
no_hit web url (got.Fetched page) proven of same = cc same
no_hit web url got.Fault proven of same = cc same

module _ (age : ℕ) (t : Trace) (web : Option Web) (old new : Search) (url : List ℕ) (has : HasFetched web old url new) where
  pub holds-fetched : HoldsSoFar age old t → HoldsSoFar age new t
  holds-fetched holds =
      subst (λ s. HoldsSoFar age s t) (sym has.is)
      (holds-asked age t old (ask_of url (has.got)) (λ proven same. absurd (no_hit web url has.got proven has.of_web same)) holds)

  pub good-fetched : ProvesGood (with_search t old) → ProvesGood (with_search t new)
  good-fetched good = subst (λ s. ProvesGood (with_search t s)) (sym has.is) (good-asked age t old (ask_of url (has.got)) good)
