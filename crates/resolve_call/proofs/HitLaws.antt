-- What a cache that began empty gives to the call that is alone on it was fetched by this call.
use Rattle.std.proofs.Common.{◌≡◌, ◌<◌, ◌⊎◌, ℕ, List, [], ◌∷◌, Bool, true, false, cond, Option, Some, None, Result, Ok, Err, refl, sym, ap, ◌∙◌, subst, inl, inr, ⊎_elim, arith, nat_eq, eq-eqb}
use Rattle.std.specs.Prelude.{bytes_eq}
use Rattle.std.specs.Option.{option_or}
use Rattle.fed_json.proofs.Order.{equal-bytes_eq}
use Rattle.turn_log.specs.Gains.{calls_of}
use Rattle.turn_log.specs.Runs.{IsLegal, Runs}
use Rattle.chain_climb.specs.Elements.{Among}
use Rattle.chain_climb.proofs.Elements.{among-left, among-right, among-split}
use Rattle.statement_shelf.specs.Entries.{Part, part_count, part_of}
use Rattle.statement_shelf.specs.Laws.{last_put, put_by}
use Rattle.statement_shelf.specs.Shelf.{ShelfStep}
use Rattle.statement_shelf.specs.declared.calls.AnchorKeys.{AnchorKeys}
use Rattle.statement_shelf.specs.declared.calls.ShelfCall.{ShelfCall}
use Rattle.statement_shelf.specs.declared.calls.ShelfCall.TheVariants.{Look, Put, Prove, Purge}
use Rattle.statement_shelf.specs.declared.calls.ShelfReply.{ShelfReply}
use Rattle.statement_shelf.specs.declared.calls.ShelfReply.TheVariants.{Hit, Done}
use Rattle.statement_shelf.proofs.PutLaws.{hit-is-last-put}
use Rattle.resolve_reply.specs.declared.reply.Reply.{Reply}
use Rattle.resolve_reply.specs.declared.signer.Signer.{Signer}
use Rattle.resolve_round.specs.declared.trace.Event.{Event}
use Rattle.resolve_round.specs.declared.trace.Event.TheVariants.{Book, Shelf}
use Rattle.resolve_round.specs.declared.trace.Trace.{Trace}
use Rattle.resolve_round.specs.Traces.{Kept, ShelfEvent, put_in}
use Rattle.resolve_round.proofs.Elements.{among-filter_map}
use Rattle.resolve_round.specs.Acts.{on_part, told_there}
use Rattle.fed_resolver.specs.declared.outcome.Outcome.{Outcome}
use Rattle.fed_resolver.specs.declared.outcome.Refusal.{Refusal}
use Rattle.fed_resolver.specs.declared.outcome.Refusal.TheVariants.{NoAnchor, NotFound, PolicyOnly, NoChain, Unavailable, Budget, Worn, Memory}
use Rattle.fed_resolver.specs.Outcomes.{Tells}
use Rattle.fed_resolver.specs.Told.{Situation, ToldInPart, ToldWhole}
use Rattle.resolve_call.specs.Alone.{HitsAreFetched, ResolvesAlone}

-- ---- calls in a run

-- a call of a run, with those before it
pub record IsAnswered (first : Part) (calls : List ShelfEvent) (e : ShelfEvent) : Type 0 where
  pub before : List ShelfEvent
  pub part : Part
  pub next : Part
  pub run : Runs ShelfStep first before part
  pub step : ShelfStep part e.0 e.1 next
  pub inside : (x : ShelfEvent) → Among x before → Among x calls

pub answered : (calls : List ShelfEvent) (first last : Part) (e : ShelfEvent) → Among e calls → Runs ShelfStep first calls last → IsAnswered first calls e
answered [] first last e among run = absurd among
answered (x ∷ calls) first last e (inl same) run = record {
  before = [];
  part = first;
  next = run.0;
  run = refl;
  step = subst (λ (y : ShelfEvent). ShelfStep first y.0 y.1 run.0) (sym same) run.1;
  inside = λ y none. absurd none;
}
answered (x ∷ calls) first last e (inr among) run =
    let rest = answered calls run.0 last e among run.2 in
    record {
      before = x ∷ rest.before;
      part = rest.part;
      next = rest.next;
      run = (run.0, run.1, rest.run);
      step = rest.step;
      inside = λ y among. ⊎_elim (λ same. inl same) (λ there. inr (rest.inside y there)) among;
    }

-- ---- the last Put

some-of : {X : Type 0} (a b : Option X) (x : X) → option_or a b ≡ Some x → (a ≡ Some x) ⊎ (b ≡ Some x)
some-of None b x is = inr is
some-of (Some a) b x is = inl is

some-same : {X : Type 0} (x y : X) → Some x ≡ Some y → x ≡ y
some-same x y is = cc is

pub not-none : {X : Type 0} (x : X) → None ≡ Some x → ⊥
not-none x is = cc is

abbrev pub put_event : List ℕ → List ℕ → ℕ → ShelfEvent
put_event url text until = (Put url text until, Done)

put-by : (b : Bool) (url u text t : List ℕ) (until end : ℕ) → (b ≡ true → url ≡ u) → cond {A = Option (List ℕ × ℕ)} b (Some (t, end)) None ≡ Some (text, until) → put_event url text until ≡ put_event u t end
put-by true url u text t until end key is =
    let pair : ◌≡◌ {A = List ℕ × ℕ} (t, end) (text, until) = some-same {X = List ℕ × ℕ} (t, end) (text, until) is in
    let same : url ≡ u = key refl in
    ap (λ k. put_event k text until) same ∙ ap (λ (x : List ℕ × ℕ). put_event u x.0 x.1) (sym pair)
put-by false url u text t until end key is = absurd (not-none {X = List ℕ × ℕ} (text, until) is)

put-of : (url : List ℕ) (call : ShelfCall) (reply : ShelfReply) (text : List ℕ) (until : ℕ) → put_by url call reply ≡ Some (text, until)
    → ◌≡◌ {A = ShelfEvent} (put_event url text until) (call, reply)
put-of url (Put u t end) Done text until is = put-by (bytes_eq url u) url u text t until end (equal-bytes_eq url u) is
put-of url call reply text until is = absurd (not-none {X = List ℕ × ℕ} (text, until) is)

pub put-among : (url : List ℕ) (calls : List ShelfEvent) (text : List ℕ) (until : ℕ) → last_put url calls ≡ Some (text, until) → Among (put_event url text until) calls
put-among url [] text until is = not-none {X = List ℕ × ℕ} (text, until) is
put-among url ((call, reply) ∷ calls) text until is =
    ⊎_elim
    (λ later. inr (put-among url calls text until later))
    (λ here. inl (put-of url call reply text until here))
    (some-of (last_put url calls) (put_by url call reply) (text, until) is)

-- ---- calls of events

module _ {E F : Type 0} (on : E → List F) where
  pub calls-among : (e : E) (f : F) (events : List E) → Among e events → Among f (on e) → Among f (calls_of on events)
  calls-among e f [] among here = absurd among
  calls-among e f (x ∷ events) (inl same) here = among-left f (on x) (calls_of on events) (subst (λ y. Among f (on y)) same here)
  calls-among e f (x ∷ events) (inr among) here = among-right f (on x) (calls_of on events) (calls-among e f events among here)

  pub among-calls : (f : F) (events : List E) → Among f (calls_of on events) → (e : E) × Among e events × Among f (on e)
  among-calls f [] among = absurd among
  among-calls f (x ∷ events) among =
      ⊎_elim
      (λ here. (x, inl refl, here))
      (λ there. let rest = among-calls f events there in (rest.0, inr rest.1, rest.2))
      (among-split f (on x) (calls_of on events) among)

-- a Look is told on its URL's part
pub look-there : (url : List ℕ) (e : ShelfEvent) → Among e (told_there (part_of url) url e)
look-there url e = subst (λ b. Among e (cond b (e ∷ []) [])) (sym (eq-eqb (part_of url) (part_of url) refl)) (inl refl)

one-of : (b : Bool) (f x : ShelfEvent) → Among f (cond b (x ∷ []) []) → f ≡ x
one-of true f x (inl same) = same
one-of true f x (inr none) = absurd none
one-of false f x none = absurd none

-- what stands as a Put on a part is one of the events
pub put-told : (p : ℕ) (event : Event) (url text : List ℕ) (until : ℕ) → Among (put_event url text until) (on_part p event)
    → put_in event ≡ Some (record { url = url; text = text; until = until })
put-told p (Shelf (Look u m) r) url text until among =
    ap (λ (x : ShelfEvent). put_in (Shelf x.0 x.1)) (sym (one-of (nat_eq (part_of u) p) (put_event url text until) (Look u m, r) among))
put-told p (Shelf (Put u t end) r) url text until among =
    ap (λ (x : ShelfEvent). put_in (Shelf x.0 x.1)) (sym (one-of (nat_eq (part_of u) p) (put_event url text until) (Put u t end, r) among))
put-told p (Shelf (Prove u seal) r) url text until among =
    ap (λ (x : ShelfEvent). put_in (Shelf x.0 x.1)) (sym (one-of (nat_eq (part_of u) p) (put_event url text until) (Prove u seal, r) among))
put-told p (Shelf (Purge m) r) url text until among = absurd among
put-told p (Book call r) url text until among = absurd among

-- ---- a call that is alone

-- whatever its result is, its trace is told in part
pub told-part : ((here : Situation) (trace : Trace) → ToldWhole here trace → ToldInPart here trace) → (here : Situation) (signer : Signer) (outcome : Outcome) (result : Result Reply Refusal)
    → Tells here signer outcome result → ToldInPart here outcome.trace
told-part law here signer outcome (Ok reply) tells = law here outcome.trace tells.told
told-part law here signer outcome (Err NoAnchor) tells = law here outcome.trace tells.told
told-part law here signer outcome (Err NotFound) tells = law here outcome.trace tells.told
told-part law here signer outcome (Err PolicyOnly) tells = law here outcome.trace tells.told
told-part law here signer outcome (Err NoChain) tells = law here outcome.trace tells.told
told-part law here signer outcome (Err Unavailable) tells = law here outcome.trace tells.told
told-part law here signer outcome (Err (Budget calls paths)) tells = law here outcome.trace tells.told
told-part law here signer outcome (Err (Worn count)) tells = tells
told-part law here signer outcome (Err Memory) tells = tells

module _ (here : Situation) (signer : Signer) (anchors : List AnchorKeys) (outcome : Outcome) (alone : ResolvesAlone here signer anchors outcome) where
  -- the calls that its trace tells of a part are legal from the empty part on
  pub legal-part : (p : ℕ) → p < part_count → IsLegal ShelfStep [] (calls_of (on_part p) outcome.trace.events)
  legal-part p less = subst (IsLegal ShelfStep []) (alone.all.parts p) (alone.history.parts_legal p less)

  -- what was hit was put before, and what was put was fetched
  pub hits-fetched : ToldInPart here outcome.trace → HitsAreFetched outcome.trace.searches
  hits-fetched told url proven among =
      let events = outcome.trace.events in
      let look = told.hits url proven among in
      let e : ShelfEvent = (Look url look.0, Hit proven) in
      let legal = legal-part (part_of url) (omega arith) in
      let made : Among e (calls_of (on_part (part_of url)) events) =
      calls-among (on_part (part_of url)) (Shelf (Look url look.0) (Hit proven)) e events look.1 (look-there url e) in
      let at = answered (calls_of (on_part (part_of url)) events) [] legal.0 e made legal.1 in
      let put = hit-is-last-put at.before at.part at.next url look.0 proven at.run at.step in
      let there = at.inside (put_event url proven.text put.0) (put-among url at.before proven.text put.0 put.1) in
      let event = among-calls (on_part (part_of url)) (put_event url proven.text put.0) events there in
      let kept : Kept = record { url = url; text = proven.text; until = put.0 } in
      (told.puts kept (among-filter_map put_in event.0 kept (put-told (part_of url) event.0 url proven.text put.0 event.2) events event.1)).0
