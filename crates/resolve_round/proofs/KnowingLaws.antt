-- What is known of a pair, and what it means.
use Rattle.std.proofs.Common.{◌≡◌, List, [], ◌∷◌, map, Bool, true, false, cond, ◌&&◌, ◌||◌, Option, Some, None, Result, Ok, refl, sym, ap, ◌∙◌, subst, inl, inr, bytes_eq, true≢false}
use Rattle.std.specs.Prelude.{find, option_map, ℕ}
use Rattle.std.specs.List.{list_any}
use Rattle.fed_json.proofs.Order.{bytes_eq-itself, equal-bytes_eq}
use Rattle.jws_form.specs.declared.compact.Compact.{Compact}
use Rattle.jws_form.specs.declared.fault.FormFault.{FormFault}
use Rattle.jws_form.specs.Compact.{IsCompact}
use Rattle.jws_form.proofs.Laws.{only}
use Rattle.sealed.specs.Deciding.{Splits}
use Rattle.sealed.specs.Seals.{IsSealed, Pair, pair_of}
use Rattle.sealed.proofs.DecidingLaws.{IsSealed-from_is_sealed}
use Rattle.chain_climb.specs.Elements.{Among}
use Rattle.statement_shelf.specs.declared.calls.Proven.{Proven}
use Rattle.statement_shelf.specs.declared.calls.ShelfCall.TheVariants.{Look, Put, Prove, Purge}
use Rattle.statement_shelf.specs.declared.calls.ShelfReply.TheVariants.{Hit, Miss, Done, Gone, Dropped, Memory}
use Rattle.resolve_round.specs.declared.trace.Check.{Check}
use Rattle.resolve_round.specs.declared.trace.Event.{Event}
use Rattle.resolve_round.specs.declared.trace.Event.TheVariants.{Shelf, Book}
use Rattle.resolve_round.specs.declared.trace.Trace.{Trace}
use Rattle.resolve_round.specs.Knowing.{AnswersStand, IsAnswer, IsKnownGood, answer_in, is_check_of, is_shown_at, is_shown_in, known_of, known_or}
use Rattle.resolve_round.specs.Told.{ShownByHit}
use Rattle.resolve_round.specs.Traces.{pair_in}
use Rattle.resolve_round.proofs.HintLaws.{and-left, and-right}
use Rattle.resolve_round.proofs.TraceLaws.{shown-test}

both : (a b : Bool) → a ≡ true → b ≡ true → (a && b) ≡ true
both true b first second = second
both false b first second = absurd (true≢false (sym first))

-- ---- checks

is-pair : (pair : Pair) (check : Check) → is_check_of pair check ≡ true → pair_in check ≡ pair
is-pair pair check is =
    let text : check.text ≡ pair.text = equal-bytes_eq check.text pair.text (and-left (bytes_eq check.text pair.text) _ is) in
    let public : check.public ≡ pair.public = equal-bytes_eq check.public pair.public (and-right (bytes_eq check.text pair.text) _ is) in
    let e : record { text = check.text; public = check.public } ≡ record { text = pair.text; public = pair.public } = cc in e

pair-is : (pair : Pair) (check : Check) → pair ≡ pair_in check → is_check_of pair check ≡ true
pair-is pair check same =
    subst (λ p. is_check_of p check ≡ true) (sym same) (both (bytes_eq check.text check.text) (bytes_eq check.public check.public) (bytes_eq-itself check.text) (bytes_eq-itself check.public))

-- a check of the pair
abbrev Found : List Check → Pair → Bool → Type 0
Found checks pair good = (check : Check) × Among check checks × (pair_in check ≡ pair) × (check.good ≡ good)

found_by : (b : Bool) (pair : Pair) (c : Check) (checks : List Check) (good : Bool) → is_check_of pair c ≡ b
    → (option_map (λ x. x.good) (find (is_check_of pair) checks) ≡ Some good → Found checks pair good)
    → option_map (λ (x : Check). x.good) (cond b (Some c) (find (is_check_of pair) checks)) ≡ Some good → Found (c ∷ checks) pair good
found_by true pair c checks good is later gives = (c, inl refl, is-pair pair c is, cc gives)
found_by false pair c checks good is later gives = let rest = later gives in (rest.0, inr rest.1, rest.2, rest.3)

pub answer-found : (checks : List Check) (pair : Pair) (good : Bool) → answer_in checks pair ≡ Some good → Found checks pair good
unfolding answer_in
answer-found [] pair good gives = cc gives
answer-found (c ∷ checks) pair good gives = found_by (is_check_of pair c) pair c checks good refl (answer-found checks pair good) gives

fresh_by : (b : Bool) (pair : Pair) (c : Check) (checks : List Check) → is_check_of pair c ≡ b
    → (option_map (λ (x : Check). x.good) (find (is_check_of pair) checks) ≡ None → ¬ Among pair (map pair_in checks))
    → option_map (λ (x : Check). x.good) (cond b (Some c) (find (is_check_of pair) checks)) ≡ None → ¬ Among pair (map pair_in (c ∷ checks))
fresh_by true pair c checks is later none among = cc none
fresh_by false pair c checks is later none (inl same) = true≢false (sym (pair-is pair c same) ∙ is)
fresh_by false pair c checks is later none (inr among) = later none among

pub answer-none : (checks : List Check) (pair : Pair) → answer_in checks pair ≡ None → ¬ Among pair (map pair_in checks)
unfolding answer_in
answer-none [] pair none among = among
answer-none (c ∷ checks) pair none among = fresh_by (is_check_of pair c) pair c checks refl (answer-none checks pair) none among

-- ---- hits

key_by : (b : Bool) (key k : List ℕ) (keys : List (List ℕ)) → bytes_eq k key ≡ b → (list_any (λ x. bytes_eq x key) keys ≡ true → Among key keys) → (b || list_any (λ x. bytes_eq x key) keys) ≡ true → Among key (k ∷ keys)
key_by true key k keys is later any = inl (sym (equal-bytes_eq k key is))
key_by false key k keys is later any = inr (later any)

any-key : (key : List ℕ) (keys : List (List ℕ)) → list_any (λ x. bytes_eq x key) keys ≡ true → Among key keys
any-key key [] any = absurd (true≢false (sym any))
any-key key (k ∷ keys) any = key_by (bytes_eq k key) key k keys refl (any-key key keys) any

or-right : (a b : Bool) → b ≡ true → (a || b) ≡ true
or-right true b is = refl
or-right false b is = is

key-any : (key : List ℕ) (keys : List (List ℕ)) → Among key keys → list_any (λ x. bytes_eq x key) keys ≡ true
key-any key [] among = absurd among
key-any key (k ∷ keys) (inl same) = ap (λ b. b || list_any (λ x. bytes_eq x key) keys) (ap (λ x. bytes_eq x key) (sym same) ∙ bytes_eq-itself key)
key-any key (k ∷ keys) (inr among) = or-right (bytes_eq k key) _ (key-any key keys among)

-- a Hit that shows the pair
abbrev pub ShowsAt : Pair → Event → Type 0
ShowsAt pair event = (url : List ℕ) × (moment : ℕ) × (proven : Proven) × (event ≡ Shelf (Look url moment) (Hit proven)) × (proven.text ≡ pair.text) × Among pair.public proven.keys

shows-at : (pair : Pair) (event : Event) → is_shown_at pair event ≡ true → ShowsAt pair event
shows-at pair (Shelf (Look url moment) (Hit proven)) is = (
  url,
  moment,
  proven,
  refl,
  equal-bytes_eq proven.text pair.text (and-left (bytes_eq proven.text pair.text) _ is),
  any-key pair.public proven.keys (and-right (bytes_eq proven.text pair.text) _ is),
)
shows-at pair (Shelf (Look url moment) Miss) is = absurd (true≢false (sym is))
shows-at pair (Shelf (Look url moment) Done) is = absurd (true≢false (sym is))
shows-at pair (Shelf (Look url moment) Gone) is = absurd (true≢false (sym is))
shows-at pair (Shelf (Look url moment) (Dropped n)) is = absurd (true≢false (sym is))
shows-at pair (Shelf (Look url moment) Memory) is = absurd (true≢false (sym is))
shows-at pair (Shelf (Put url text until) r) is = absurd (true≢false (sym is))
shows-at pair (Shelf (Prove url seal) r) is = absurd (true≢false (sym is))
shows-at pair (Shelf (Purge moment) r) is = absurd (true≢false (sym is))
shows-at pair (Book call r) is = absurd (true≢false (sym is))

shown_by : (b : Bool) (pair : Pair) (e : Event) (events : List Event) → is_shown_at pair e ≡ b → (list_any (is_shown_at pair) events ≡ true → ShownByHit events pair)
    → (b || list_any (is_shown_at pair) events) ≡ true → ShownByHit (e ∷ events) pair
shown_by true pair e events is later any = let s = shows-at pair e is in (s.0, s.1, s.2, inl (sym s.3), s.4, s.5)
shown_by false pair e events is later any = let rest = later any in (rest.0, rest.1, rest.2, inr rest.3, rest.4, rest.5)

pub shown-is : (events : List Event) (pair : Pair) → is_shown_in events pair ≡ true → ShownByHit events pair
unfolding is_shown_in
shown-is [] pair any = absurd (true≢false (sym any))
shown-is (e ∷ events) pair any = shown_by (is_shown_at pair e) pair e events refl (shown-is events pair) any

shows-true : (pair : Pair) (url : List ℕ) (moment : ℕ) (proven : Proven) → (proven.text ≡ pair.text) × Among pair.public proven.keys → is_shown_at pair (Shelf (Look url moment) (Hit proven)) ≡ true
shows-true pair url moment proven shows =
    both (bytes_eq proven.text pair.text) _ (ap (bytes_eq proven.text) (sym shows.0) ∙ bytes_eq-itself proven.text) (key-any pair.public proven.keys shows.1)

is-shown : (events : List Event) (pair : Pair) → ShownByHit events pair → is_shown_in events pair ≡ true
unfolding is_shown_in
is-shown [] pair (url, moment, proven, among, text, key) = absurd among
is-shown (e ∷ events) pair (url, moment, proven, inl same, text, key) =
    ap (λ b. b || list_any (is_shown_at pair) events) (ap (is_shown_at pair) (sym same) ∙ shows-true pair url moment proven (text, key))
is-shown (e ∷ events) pair (url, moment, proven, inr among, text, key) = or-right (is_shown_at pair e) _ (is-shown events pair (url, moment, proven, among, text, key))

pub shown-none : (events : List Event) (pair : Pair) → is_shown_in events pair ≡ false → ¬ ShownByHit events pair
shown-none events pair nay shown = true≢false (sym (is-shown events pair shown) ∙ nay)

-- ---- what is known

ok-one : (a b : Compact) → ◌≡◌ {A = Result Compact FormFault} (Ok a) (Ok b) → a ≡ b
ok-one a b same = cc same

-- a text that was taken apart has its own parts
pub whole-splits : (compact : Compact) → IsCompact compact.whole compact → Splits compact.whole
whole-splits compact is other splits = subst (IsCompact compact.whole) (ok-one compact other (sym (only compact.whole compact is) ∙ splits)) is

pub shown-sealed : (compact : Compact) (public : List ℕ) (events : List Event) → IsCompact compact.whole compact → ShownByHit events (pair_of compact.whole public) → IsSealed (pair_of compact.whole public)
shown-sealed compact public events is (url, moment, proven, among, text, key) =
    IsSealed-from_is_sealed (pair_of compact.whole public) (whole-splits compact is) (shown-test proven (pair_of compact.whole public) text key)

module _ (t : Trace) (compact : Compact) (public : List ℕ) (is : IsCompact compact.whole compact) (answers : AnswersStand t.checks) where
  abbrev pair : Pair
  pair = pair_of compact.whole public

  known_by : (o : Option Bool) (shown : Bool) (good : Bool) → answer_in t.checks pair ≡ o → is_shown_in t.events pair ≡ shown → known_or o shown ≡ Some good → IsAnswer pair good × (good ≡ true → IsKnownGood t pair)
  known_by (Some g) shown good found is_shown gives =
      let one : g ≡ good = cc gives in
      let check = answer-found t.checks pair g found in
      (subst (IsAnswer pair) (check.3 ∙ one) (subst (λ p. IsAnswer p (check.0).good) check.2 (answers check.0 check.1)), λ aye. inl (check.0, check.1, check.2, check.3 ∙ one ∙ aye))
  known_by None true good found is_shown gives =
      let one : true ≡ good = cc gives in
      let shown = shown-is t.events pair is_shown in
      (subst (IsAnswer pair) one (shown-sealed compact public t.events is shown), λ aye. inr shown)
  known_by None false good found is_shown gives = cc gives

  -- what is known is so
  pub known-is : (good : Bool) → known_of t pair ≡ Some good → IsAnswer pair good × (good ≡ true → IsKnownGood t pair)
  known-is good gives = known_by (answer_in t.checks pair) (is_shown_in t.events pair) good refl refl gives

  none_by : (o : Option Bool) (shown : Bool) → answer_in t.checks pair ≡ o → is_shown_in t.events pair ≡ shown → known_or o shown ≡ None → (¬ Among pair (map pair_in t.checks)) × (¬ ShownByHit t.events pair)
  none_by (Some g) shown found is_shown gives = cc gives
  none_by None true found is_shown gives = cc gives
  none_by None false found is_shown gives = (answer-none t.checks pair found, shown-none t.events pair is_shown)

  -- of a pair that isn't known there is neither a check nor a Hit
  pub unknown-is : known_of t pair ≡ None → (¬ Among pair (map pair_in t.checks)) × (¬ ShownByHit t.events pair)
  unknown-is gives = none_by (answer_in t.checks pair) (is_shown_in t.events pair) refl refl gives
