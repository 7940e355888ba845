-- What holds of every round.
use Rattle.std.proofs.Common.{◌≡◌, ◌⊎◌, ℕ, List, [], ◌∷◌, ◌++◌, map, Bool, true, false, cond, refl, sym, ap, ◌∙◌, subst, inl, inr, ⊎_elim, append-nil, true≢false, bytes_eq}
use Rattle.std.specs.List.{list_any}
use Rattle.chain_climb.proofs.ClimbLaws.{among-any, any-among, both_ways}
use Rattle.chain_climb.specs.declared.path.Path.{Path}
use Rattle.chain_climb.specs.Climbs.{Findings, Need, Step, add, climb, judge, need, needed}
use Rattle.chain_climb.specs.Elements.{Among, NoneTwice}
use Rattle.resolve_round.specs.Pages.{Query}
use Rattle.resolve_round.specs.Courses.{Course, Stop, finished, first_after, found, is_budget, out_of_calls, out_of_paths, url_of}
use Rattle.resolve_round.specs.Rounds.{FoundPath, RoundBy, StopsAt, WasAsked, need_url}

-- ---- first needs

abbrev step_after : Bool → List (List ℕ) → Need → List Need → List Need
step_after b earlier page pages = cond b (first_after earlier pages) (page ∷ first_after (page.url ∷ earlier) pages)

apart-here : (b : Bool) (earlier : List (List ℕ)) (page : Need) (pages : List Need) (url : List ℕ) → list_any (bytes_eq page.url) earlier ≡ b → Among url earlier
    → ¬ Among url (map need_url (first_after earlier pages)) → ¬ Among url (map need_url (first_after (page.url ∷ earlier) pages))
    → ¬ Among url (map need_url (step_after b earlier page pages))
apart-here true earlier page pages url is before old new among = old among
apart-here false earlier page pages url is before old new (inl same) =
    both_ways (list_any (bytes_eq page.url) earlier) (any-among page.url earlier (subst (λ u. Among u earlier) same before)) is
apart-here false earlier page pages url is before old new (inr among) = new among

-- an earlier URL isn't needed first any more
first-apart : (earlier : List (List ℕ)) (pages : List Need) (url : List ℕ) → Among url earlier → ¬ Among url (map need_url (first_after earlier pages))
first-apart earlier [] url before among = among
first-apart earlier (page ∷ pages) url before among =
    apart-here (list_any (bytes_eq page.url) earlier) earlier page pages url refl before
    (first-apart earlier pages url before) (first-apart (page.url ∷ earlier) pages url (inr before)) among

once-here : (b : Bool) (earlier : List (List ℕ)) (page : Need) (pages : List Need) → NoneTwice (map need_url (first_after earlier pages))
    → NoneTwice (map need_url (first_after (page.url ∷ earlier) pages)) → NoneTwice (map need_url (step_after b earlier page pages))
once-here true earlier page pages old new = old
once-here false earlier page pages old new = (first-apart (page.url ∷ earlier) pages page.url (inl refl), new)

-- no URL is needed first twice
first-once : (earlier : List (List ℕ)) (pages : List Need) → NoneTwice (map need_url (first_after earlier pages))
first-once earlier [] = tt
first-once earlier (page ∷ pages) = once-here (list_any (bytes_eq page.url) earlier) earlier page pages (first-once earlier pages) (first-once (page.url ∷ earlier) pages)

abbrev pub IsMet : List (List ℕ) → List Need → Need → Type 0
IsMet earlier firsts page = Among page.url earlier ⊎ Among page.url (map need_url firsts)

met-later : (earlier : List (List ℕ)) (x : Need) (firsts : List Need) (page : Need) → IsMet (x.url ∷ earlier) firsts page → IsMet earlier (x ∷ firsts) page
met-later earlier x firsts page (inl (inl same)) = inr (inl same)
met-later earlier x firsts page (inl (inr before)) = inl before
met-later earlier x firsts page (inr there) = inr (inr there)

met-here : (b : Bool) (earlier : List (List ℕ)) (x : Need) (pages : List Need) (page : Need) → list_any (bytes_eq x.url) earlier ≡ b
    → (Among page pages → IsMet earlier (first_after earlier pages) page) → (Among page pages → IsMet (x.url ∷ earlier) (first_after (x.url ∷ earlier) pages) page)
    → Among page (x ∷ pages) → IsMet earlier (step_after b earlier x pages) page
met-here true earlier x pages page is old new (inl same) = inl (subst (λ u. Among u earlier) (sym (ap need_url same)) (among-any x.url earlier is))
met-here true earlier x pages page is old new (inr there) = old there
met-here false earlier x pages page is old new (inl same) = inr (inl (ap need_url same))
met-here false earlier x pages page is old new (inr there) = met-later earlier x (first_after (x.url ∷ earlier) pages) page (new there)

-- each need's URL is an earlier one, or is needed first
pub first-all : (earlier : List (List ℕ)) (pages : List Need) (page : Need) → Among page pages → IsMet earlier (first_after earlier pages) page
first-all earlier [] page among = absurd among
first-all earlier (x ∷ pages) page among =
    met-here (list_any (bytes_eq x.url) earlier) earlier x pages page refl (first-all earlier pages page) (first-all (x.url ∷ earlier) pages page) among

-- ---- rounds

module _ (query : Query) (good : Findings) (Valid : Path → Type 0) (course : Course) (round : RoundBy query good Valid course) where
  -- no URL is asked twice
  pub asks-once : NoneTwice (map url_of course.search.asks)
  asks-once = subst NoneTwice (sym (round.asks ∙ ap (map need_url) round.needs)) (first-once [] (needed round.taken))

  stop-budget : (left : List Step) (stop : Stop) → StopsAt query Valid course left stop → is_budget stop ≡ true → (course.search.calls ≡ query.bounds.calls) ⊎ (course.search.paths ≡ query.bounds.paths)
  stop-budget [] finished stops ended = absurd (true≢false (sym ended))
  stop-budget (judge path ∷ left) (found p) stops ended = absurd (true≢false (sym ended))
  stop-budget (need page ∷ left) (out_of_calls p) stops ended = inl stops.2
  stop-budget (add path ∷ left) (out_of_paths p) stops ended = inr stops.1
  stop-budget left stop stops ended = absurd stops

  -- a round has `ended` only at a bound
  pub ended-at_bound : course.search.ended ≡ true → (course.search.calls ≡ query.bounds.calls) ⊎ (course.search.paths ≡ query.bounds.paths)
  ended-at_bound ended = stop-budget round.left course.stop round.stops (sym round.ended ∙ ended)

  none-left : (left : List Step) (stop : Stop) → StopsAt query Valid course left stop → is_budget stop ≡ false → ((path : Path) → ¬ (stop ≡ found path)) → left ≡ []
  none-left [] finished stops within nothing = refl
  none-left (judge path ∷ left) (found p) stops within nothing = absurd (nothing p refl)
  none-left (need page ∷ left) (out_of_calls p) stops within nothing = absurd (true≢false within)
  none-left (add path ∷ left) (out_of_paths p) stops within nothing = absurd (true≢false within)
  none-left left stop stops within nothing = absurd stops

  -- a round that found no path and ended at no bound asked for each page that the search needs
  pub asks-all : course.search.ended ≡ false → ¬ FoundPath course → (page : Need) → Among page (needed (climb good query.entity query.anchor query.bounds.depth)) → WasAsked course page
  asks-all within nothing page among =
      let empty : round.left ≡ [] = none-left round.left course.stop round.stops (sym round.ended ∙ within) (λ path is. nothing (path, is)) in
      let whole : climb good query.entity query.anchor query.bounds.depth ≡ round.taken = round.steps ∙ ap (λ l. round.taken ++ l) empty ∙ append-nil round.taken in
      let there : Among page (needed round.taken) = subst (λ steps. Among page (needed steps)) whole among in
      ⊎_elim (λ before. absurd before) (λ first. subst (λ needs. Among page.url (map need_url needs)) (sym round.needs) first) (first-all [] (needed round.taken) page there)
