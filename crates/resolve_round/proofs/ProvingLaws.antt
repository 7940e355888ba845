-- What Proves of tested pairs leave of a trace.
use Rattle.std.proofs.Common.{◌≡◌, ◌<◌, ◌+◌, ℕ, List, [], ◌∷◌, ◌++◌, length, take, get_or, Bool, true, false, None, refl, sym, ap, ◌∙◌, subst, inl, inr, ⊎_elim, append-nil, append_assoc, bytes_eq, true≢false}
use Rattle.std.proofs.lemmas.List.{take_more}
use Rattle.fed_json.proofs.Order.{bytes_eq-itself, equal-bytes_eq}
use Rattle.sealed.specs.Seals.{Pair}
use Rattle.chain_climb.specs.Elements.{Among}
use Rattle.chain_climb.proofs.Elements.{among-left, among-right, among-split}
use Rattle.statement_shelf.specs.declared.calls.ShelfCall.{ShelfCall}
use Rattle.statement_shelf.specs.declared.calls.ShelfCall.TheVariants.{Prove}
use Rattle.statement_shelf.specs.declared.calls.ShelfReply.{ShelfReply}
use Rattle.resolve_round.specs.declared.trace.Check.{Check}
use Rattle.resolve_round.specs.declared.trace.Event.{Event}
use Rattle.resolve_round.specs.declared.trace.Event.TheVariants.{Shelf}
use Rattle.resolve_round.specs.declared.trace.Trace.{Trace}
use Rattle.resolve_round.specs.Acts.{IsRecorded}
use Rattle.resolve_round.specs.Proving.{AddsProves, IsGoodProve, IsGoodSeal, ProvedIn, ProvesEach, ProvesOne}
use Rattle.resolve_round.specs.Told.{IsProved, IsTrueSoFar, Obtained, Places, ProvesGood, SomePlaces}
use Rattle.resolve_round.specs.Traces.{pair_in}
use Rattle.resolve_round.proofs.TraceLaws.{prove-more, still-proved, with_event}

-- ---- events that are added one by one

module _ (checks : List Check) (old : List Event) where
  pub adds-none : (new : List Event) → new ≡ old → AddsProves checks old new
  adds-none new same = record { more = []; are = same ∙ sym (append-nil old); proves = λ event none. absurd none }

  adds-prove : (mid new : List Event) (e : Event) → AddsProves checks old mid → IsGoodProve checks e → new ≡ mid ++ e ∷ [] → AddsProves checks old new
  adds-prove mid new e adds good is = record {
    more = adds.more ++ e ∷ [];
    are = is ∙ ap (λ es. es ++ e ∷ []) adds.are ∙ append_assoc old adds.more (e ∷ []);
    proves = λ event among.
        ⊎_elim (λ before. adds.proves event before)
        (λ last. ⊎_elim (λ same. subst (IsGoodProve checks) (sym same) good) (λ none. absurd none) last)
        (among-split event adds.more (e ∷ []) among);
  }

module _ (url text : List ℕ) (old : List Event) where
  pub each-none : (new : List Event) → ProvesEach [] url text old new
  each-none new check none = absurd none

  -- later events leave it
  each-later : (checks : List Check) (mid new : List Event) (e : Event) → ProvesEach checks url text old mid → new ≡ mid ++ e ∷ [] → ProvesEach checks url text old new
  each-later checks mid new e each is check among good same =
      let p = each check among good same in
      record {
        before = p.before;
        answer = p.answer;
        after = p.after ++ e ∷ [];
        stands = is ∙ ap (λ es. es ++ e ∷ []) p.stands ∙ append_assoc (old ++ p.before) (Shelf (Prove url (pair_in check)) p.answer ∷ p.after) (e ∷ []);
      }

  -- a check more that is no good one of the text
  each-skip : (checks : List Check) (check : Check) (new : List Event) → ProvesEach checks url text old new → IsGoodSeal check text None → ProvesEach (checks ++ check ∷ []) url text old new
  each-skip checks check new each apart c among good same =
      ⊎_elim (λ before. each c before good same)
      (λ last. ⊎_elim (λ one. absurd (apart (ap (λ (x : Check). x.good) (sym one) ∙ good) (ap (λ (x : Check). x.text) (sym one) ∙ same))) (λ none. absurd none) last)
      (among-split c checks (check ∷ []) among)

  -- a check more that was proved
  each-more : (checks : List Check) (check : Check) (more mid new : List Event) (r : ShelfReply) → ProvesEach checks url text old mid → mid ≡ old ++ more → new ≡ mid ++ Shelf (Prove url (pair_in check)) r ∷ []
      → ProvesEach (checks ++ check ∷ []) url text old new
  each-more checks check more mid new r each are is c among good same =
      ⊎_elim (λ before. each-later checks mid new (Shelf (Prove url (pair_in check)) r) each is c before good same)
      (λ last. ⊎_elim
      (λ one. subst (λ (x : Check). ProvedIn old new url (pair_in x)) (sym one)
      (record { before = more; answer = r; after = []; stands = is ∙ ap (λ es. es ++ Shelf (Prove url (pair_in check)) r ∷ []) are }))
      (λ none. absurd none) last)
      (among-split c checks (check ∷ []) among)

-- as far as the checks were looked at
each-turn : (checks : List Check) (at : ℕ) (check : Check) (url text : List ℕ) (old new : List Event) → at < length checks → check ≡ get_or checks at check
    → ProvesEach (take at checks ++ check ∷ []) url text old new → ProvesEach (take (at + 1) checks) url text old new
each-turn checks at check url text old new less is each =
    subst (λ cs. ProvesEach cs url text old new) (sym (take_more checks at check less ∙ ap (λ c. take at checks ++ c ∷ []) (sym is))) each

-- one check more, which was proved where it is a good one of the text
pub adds-one : (checks : List Check) (check : Check) (url text : List ℕ) (old mid new : List Event) → Among check checks → AddsProves checks old mid → ProvesOne check url text mid new → AddsProves checks old new
adds-one checks check url text old mid new among adds one =
    ⊎_elim (λ same. subst (AddsProves checks old) (sym same.1) adds)
    (λ proved. adds-prove checks old mid new (Shelf (Prove url (pair_in check)) proved.0) adds (url, check, proved.0, among, proved.1, refl) proved.2)
    one

pub each-one : (checks : List Check) (at : ℕ) (check : Check) (url text : List ℕ) (old more mid new : List Event) → at < length checks → check ≡ get_or checks at check → mid ≡ old ++ more
    → ProvesEach (take at checks) url text old mid → ProvesOne check url text mid new → ProvesEach (take (at + 1) checks) url text old new
each-one checks at check url text old more mid new less is are each one =
    each-turn checks at check url text old new less is
    (⊎_elim (λ same. subst (ProvesEach (take at checks ++ check ∷ []) url text old) (sym same.1) (each-skip url text old (take at checks) check mid each same.0))
    (λ proved. each-more url text old (take at checks) check more mid new proved.0 each are proved.2)
    one)

recorded-prove : (url at : List ℕ) (seal pair : Pair) (r s : ShelfReply) → at ≡ url → seal ≡ pair → Shelf (Prove at seal) r ≡ Shelf (Prove url pair) r
recorded-prove url at seal pair r s place same = ap (λ u. Shelf (Prove u seal) r) place ∙ ap (λ p. Shelf (Prove url p) r) same

-- the call that was recorded is the Prove of the check
pub prove-recorded : (old new : List Event) (url at : List ℕ) (seal : Pair) (check : Check) (call : ShelfCall) → at ≡ url → seal ≡ pair_in check → call ≡ Prove at seal → IsRecorded old call new
    → (r : ShelfReply) × (new ≡ old ++ Shelf (Prove url (pair_in check)) r ∷ [])
prove-recorded old new url at seal check call place same is recorded =
    (recorded.answer, recorded.is ∙ ap (λ e. old ++ e ∷ []) (ap (λ c. Shelf c recorded.answer) is ∙ recorded-prove url at seal (pair_in check) recorded.answer recorded.answer place same))

-- ---- what they leave of a trace

abbrev pub with_events : Trace → List Event → Trace
with_events t more = record t { events = t.events ++ more }

proves_known : (age : ℕ) (t : Trace) (e : Event) → IsGoodProve t.checks e → IsTrueSoFar age t → IsTrueSoFar age (with_event t e)
proves_known age t e (url, check, r, among, good, is) told =
    subst (λ x. IsTrueSoFar age (with_event t x)) (sym is) (prove-more age t url (pair_in check) r told (inl (check, among, refl, good)))

pub proves-true : (age : ℕ) (t : Trace) (more : List Event) → ((event : Event) → Among event more → IsGoodProve t.checks event) → IsTrueSoFar age t → IsTrueSoFar age (with_events t more)
proves-true age t [] proves told = subst (λ es. IsTrueSoFar age (record t { events = es })) (sym (append-nil t.events)) told
proves-true age t (e ∷ more) proves told =
    subst (λ es. IsTrueSoFar age (record t { events = es })) (append_assoc t.events (e ∷ []) more)
    (proves-true age (with_event t e) more (λ event among. proves event (inr among)) (proves_known age t e (proves e (inl refl)) told))

places_no-prove : (at y : List ℕ) (checks : List Check) (e : Event) → IsGoodProve checks e → Places at y e → ⊥
places_no-prove at y checks e (url, check, r, among, good, is) places = absurd (subst (Places at y) is places)

pub proves-still : (t : Trace) (pair : Pair) (more : List Event) → ((event : Event) → Among event more → IsGoodProve t.checks event) → IsProved t pair → IsProved (with_events t more) pair
proves-still t pair [] proves is = subst (λ es. IsProved (record t { events = es }) pair) (sym (append-nil t.events)) is
proves-still t pair (e ∷ more) proves is =
    subst (λ es. IsProved (record t { events = es }) pair) (append_assoc t.events (e ∷ []) more)
    (proves-still (with_event t e) pair more (λ event among. proves event (inr among)) (still-proved t e pair is (λ places. absurd (places_no-prove is.url pair.text t.checks e (proves e (inl refl)) places))))

-- ---- a text that was placed

-- the event places the text under the URL, and no other
pub record PlacesOne (url text : List ℕ) (e : Event) : Type 0 where
  pub here : Places url text e
  pub only : (at y : List ℕ) → Places at y e → (at ≡ url) × (y ≡ text)

-- where some event had placed it there before, what was proved stays so
pub placed-again : (t : Trace) (e : Event) (url text : List ℕ) → PlacesOne url text e → SomePlaces url text t.events → ProvesGood t → ProvesGood (with_event t e)
placed-again t e url text one before good c among aye =
    let is = good c among aye in
    still-proved t e (pair_in c) is
    (λ places. let same = one.only is.url c.text places in
    subst (λ u. SomePlaces u c.text t.events) (sym same.0) (subst (λ y. SomePlaces url y t.events) (sym same.1) before))

-- where each good check of it is proved behind it, each good check is proved
pub placed-anew : (t : Trace) (e : Event) (more : List Event) (url text : List ℕ) → PlacesOne url text e → Obtained t.searches url text → ((event : Event) → Among event more → IsGoodProve t.checks event)
    → ProvesEach t.checks url text (t.events ++ e ∷ []) ((t.events ++ e ∷ []) ++ more) → ProvesGood t → ProvesGood (with_events (with_event t e) more)
placed-anew t e more url text one obtained proves each good c among aye = by_text (bytes_eq c.text text) refl
  where
    here : c.text ≡ text → IsProved (with_events (with_event t e) more) (pair_in c)
    here same =
        let p = each c among aye same in
        record {
          url = url;
          obtained = subst (Obtained t.searches url) (sym same) obtained;
          before = (t.events ++ e ∷ []) ++ p.before;
          answer = p.answer;
          after = p.after;
          stands = p.stands;
          placed = λ some. (e, among-left e (t.events ++ e ∷ []) p.before (among-right e t.events (e ∷ []) (inl refl)), subst (λ y. Places url y e) (sym same) one.here);
        }

    by_text : (b : Bool) → bytes_eq c.text text ≡ b → IsProved (with_events (with_event t e) more) (pair_in c)
    by_text true is = here (equal-bytes_eq c.text text is)
    by_text false is =
        let old = good c among aye in
        proves-still (with_event t e) (pair_in c) more proves
        (still-proved t e (pair_in c) old
        (λ places. absurd (true≢false (sym (ap (bytes_eq c.text) (sym (one.only old.url c.text places).1) ∙ bytes_eq-itself c.text) ∙ is))))
