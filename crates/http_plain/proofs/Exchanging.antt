-- From what was sent and received to the exchange of a call.
use Rattle.std.proofs.Common.{◌≡◌, ◌≤◌, inl, inr, ℕ, ◌+◌, Bool, true, false, List, [], ◌∷◌, ◌++◌, length, map, take, drop, Option, Some, None, option_map, Result, Ok, Err, IfOk, OnOk, OnErr, is_err, refl, sym, ap, ◌∙◌, subst, arith, append_assoc, append-nil, take_all}
use Rattle.std.proofs.Math.Seq.{take-add}
use Rattle.fed_ports.specs.Exchanges.{AddedOrSilent, Exchange, Changed, change_last, fresh, with_failure, with_sent, with_received}
use Rattle.fed_ports.specs.Lists.{Added}
use Rattle.fed_ports.specs.declared.address.Address.{Address}
use Rattle.fed_ports.specs.declared.link.LinkFault.{LinkFault}
use Rattle.fed_ports.specs.declared.page.Page.{Page}
use Rattle.url.specs.Parts.{Parts}
use Rattle.http_messages.specs.declared.inflow.Break.{Break}
use Rattle.http_messages.specs.declared.inflow.Break.TheVariants.{Failed, Memory}
use Rattle.http_plain.specs.declared.route.Route.{Route}
use Rattle.http_messages.specs.Asked.{AsksPart, SentPart, asked_of, asking}
use Rattle.http_plain.specs.ExchangeLaws.{changed_of, changed_on, changed_same, received_none, with_broken}
use Rattle.http_messages.specs.Flows.{BreakCause, OnFailed}
use Rattle.http_plain.specs.Links.{AddsBroken, AddsExchange, Answers, AnswersBy, GetsBy, LeavesBy}
use Rattle.http_plain.specs.Plans.{SaysTarget, SentBroken}
use Rattle.http_messages.specs.Heads.{head_end}
use Rattle.http_plain.specs.Pages.{IsPage}
use Rattle.http_plain.proofs.Pages.{early_none}
use Rattle.http_plain.specs.Shown.{Lacks, Shows}

abbrev with_bytes : Exchange → List ℕ → Exchange
with_bytes x s = record { to = x.to; sent = s; received = x.received; ended = x.ended; failed = x.failed }

pub sent_none : (a : Option (List Exchange)) → Changed a (with_sent []) a
sent_none a = changed_same (with_sent []) (λ x. ap (with_bytes x) (sym (append-nil x.sent))) a

pub sent_on : (a b c : Option (List Exchange)) (bytes piece : List ℕ) (at n : ℕ) → piece ≡ drop at bytes → Changed a (with_sent (take at bytes)) b → Changed b (with_sent (take n piece)) c
    → Changed a (with_sent (take (at + n) bytes)) c
sent_on a b c bytes piece at n is p q =
    let whole = ap (λ y. take at bytes ++ take n y) is ∙ sym (take-add at n bytes) in
    changed_on (with_sent (take at bytes)) (with_sent (take n piece)) (with_sent (take (at + n) bytes)) (λ x. ap (with_bytes x) (append_assoc x.sent (take at bytes) (take n piece) ∙ ap (λ y. x.sent ++ y) whole)) a b c p q

change_end : (f : Exchange → Exchange) (l : List Exchange) (x : Exchange) → change_last f (l ++ x ∷ []) ≡ l ++ f x ∷ []
unfolding change_last
change_end f [] x = refl
change_end f (y ∷ []) x = refl
change_end f (y ∷ z ∷ l) x = ap (λ t. y ∷ t) (change_end f (z ∷ l) x)

added_on : (f : Exchange → Exchange) (x : Exchange) (a b c : Option (List Exchange)) → Added a (x ∷ []) b → Changed b f c → Added a (f x ∷ []) c
added_on f x None b c p q = rw (q, p) refl
added_on f x (Some l) b c p q = rw (q, p) (ap Some (change_end f l x))

answered : (a b c d : Option (List Exchange)) (to : Address) (message : List ℕ) (p : Page) → Added a (fresh to ∷ []) b → Changed b (with_sent message) c → Shows (λ x e. Changed c (with_received x e) d) p
    → AddsExchange a d (λ x. Answers x to message p)
answered a b c d to message p opens sends shows = (
  with_received shows.got shows.ended (with_sent message (fresh to)),
  added_on (with_received shows.got shows.ended) (with_sent message (fresh to)) a c d (added_on (with_sent message) (fresh to) a b c opens sends) shows.came,
  record { address = refl; message_is = refl; steady = refl; few = shows.few; page = shows.page },
)

pub answered_if : (a b c d e : Option (List Exchange)) (to : Address) (message : List ℕ) (r : Result Page Break) → Added a (fresh to ∷ []) b → Changed b (with_sent message) c → e ≡ d
    → IfOk r (λ p. Shows (λ x n. Changed c (with_received x n) d) p) → IfOk r (λ p. AddsExchange a e (λ x. Answers x to message p))
answered_if a b c d e to message (Ok p) opens sends same shows = subst (λ o. AddsExchange a o (λ x. Answers x to message p)) (sym same) (answered a b c d to message p opens sends shows)
answered_if a b c d e to message (Err f) opens sends same shows = tt

pub ok_part : {T E : Type 0} {P : Type 0} (r : Result T E) → is_err r ≡ false → OnOk r P → P
ok_part (Ok x) e p = p
ok_part (Err x) e p = cc

pub cause_on : (a b c d : ℕ) (r : Result Page Break) → b ≡ a → d ≡ c → BreakCause b c r → BreakCause a d r
cause_on a b c d r first last h = subst (λ x. BreakCause x d r) first (subst (λ y. BreakCause b y r) (sym last) h)

-- the page of a call that had a route
pub gets : (message_for : Parts → List ℕ) (routes : List Route) (text : List ℕ) (old new : Option (List Exchange)) (url : Parts) (to : Address) (message : List ℕ) (p : Page) → SaysTarget routes text url to
    → message ≡ message_for url → AddsExchange old new (λ x. Answers x to message p) → GetsBy message_for routes text old new p
gets message_for routes text old new url to message p says is h = inr (
  h.0,
  h.1,
  record {
    url = url;
    reads = says.reads;
    address = says.address ∙ ap Some (sym h.2.address);
    message = h.2.message_is ∙ is;
    steady = h.2.steady;
    few = h.2.few;
    page = h.2.page;
  },
)

-- what shows a page shows it in another account of what came
pub shown_as : (flow told : List ℕ → Bool → Type 0) → ((x : List ℕ) (e : Bool) → flow x e → told x e) → (r : Result Page Break) → IfOk r (λ p. Shows flow p) → IfOk r (λ p. Shows told p)
shown_as flow told same (Ok p) h = record { got = h.got; ended = h.ended; came = same h.got h.ended h.came; few = h.few; page = h.page }
shown_as flow told same (Err f) h = tt

-- what is changed of the last exchange without its address and what was sent is asked as before
asked_last : (f : Exchange → Exchange) → ((x : Exchange) → asking (f x) ≡ asking x) → (l : List Exchange) → map asking (change_last f l) ≡ map asking l
unfolding change_last
asked_last f e [] = refl
asked_last f e (x ∷ []) = ap (λ y. y ∷ []) (e x)
asked_last f e (x ∷ y ∷ l) = ap (λ t. asking x ∷ t) (asked_last f e (y ∷ l))

pub asked_same : (f : Exchange → Exchange) → ((x : Exchange) → asking (f x) ≡ asking x) → (a b : Option (List Exchange)) → Changed a f b → asked_of b ≡ asked_of a
asked_same f e None b p = ap asked_of p
asked_same f e (Some l) b p = ap asked_of p ∙ ap Some (asked_last f e l)

asked_added : (l : List Exchange) (x : Exchange) → map asking (l ++ x ∷ []) ≡ map asking l ++ asking x ∷ []
asked_added [] x = refl
asked_added (y ∷ l) x = ap (λ t. asking y ∷ t) (asked_added l x)

pub added_asks : (a b : Option (List Exchange)) (x : Exchange) → Added a (x ∷ []) b → Added (asked_of a) (asking x ∷ []) (asked_of b)
added_asks None b x p = ap asked_of p
added_asks (Some l) b x p = ap asked_of p ∙ ap Some (asked_added l x)

-- an open that failed
abbrev no_bytes : List ℕ
no_bytes = []

nothing : (x : List ℕ) → take 0 x ≡ no_bytes
nothing [] = refl
nothing (b ∷ x) = refl

pub refused_part : (a b : Option (List Exchange)) (to : Address) (message : List ℕ) → AddedOrSilent a (with_failure (fresh to)) b → AsksPart a b to message
refused_part a b to message (inl h) =
    inl (0, omega arith, subst (λ s. Added (asked_of a) ((to, s) ∷ []) (asked_of b)) (sym (nothing message)) (added_asks a b (with_failure (fresh to)) h))
refused_part a b to message (inr h) = inr h

-- a sending that failed
pub sent_broken : (a b c : Option (List Exchange)) (message : List ℕ) (n : ℕ) → n ≤ length message → Changed a (with_sent (take n message)) b → Changed b with_failure c → SentBroken a message c
sent_broken a b c message n few p q = (n, few, changed_on (with_sent (take n message)) with_failure (λ x. with_failure (with_sent (take n message) x)) (λ x. refl) a b c p q)

sent_part : (a c : Option (List Exchange)) (message : List ℕ) → SentBroken a message c → SentPart a message c
sent_part a c message h =
    let part = option_map (change_last (with_sent (take h.0 message))) a in
    let fails = changed_of (with_sent (take h.0 message)) with_failure a c h.2 in
    (h.0, h.1, asked_same with_failure (λ x. refl) part c fails)

pub part_asks : (a b c : Option (List Exchange)) (to : Address) (message : List ℕ) → Added a (fresh to ∷ []) b → SentPart b message c → AsksPart a c to message
part_asks a b c to message opens part =
    let f = with_sent (take part.0 message) in
    let added = added_asks a (option_map (change_last f) b) (f (fresh to)) (added_on f (fresh to) a b (option_map (change_last f) b) opens refl) in
    inl (part.0, part.1, part.2 ∙ added)

-- a reading that broke off
pub whole_asks : (a b c d : Option (List Exchange)) (to : Address) (message : List ℕ) → Added a (fresh to ∷ []) b → Changed b (with_sent message) c → asked_of d ≡ asked_of c → AsksPart a d to message
whole_asks a b c d to message opens sends e =
    part_asks a b d to message opens (length message, omega arith, e ∙ ap asked_of sends ∙ ap (λ m. asked_of (option_map (change_last (with_sent m)) b)) (sym (take_all (length message) message (omega arith))))

pub received_asked : {E : Type 0} (r : Result ℕ E) (a b : Option (List Exchange)) (bytes : ℕ → List ℕ) (ended : ℕ → Bool) → IfOk r (λ n. Changed a (with_received (bytes n) (ended n)) b) → OnErr r (Changed a with_failure b)
    → asked_of b ≡ asked_of a
received_asked (Ok n) a b bytes ended h f = asked_same (with_received (bytes n) (ended n)) (λ x. refl) a b h
received_asked (Err e) a b bytes ended h f = asked_same with_failure (λ x. refl) a b f

pub failed_asked : {T E : Type 0} (r : Result T E) (a b : Option (List Exchange)) → OnErr r (Changed a with_failure b) → OnErr r (asked_of b ≡ asked_of a)
failed_asked (Ok n) a b f = tt
failed_asked (Err e) a b f = asked_same with_failure (λ x. refl) a b f

pub err_part : {T E : Type 0} {P : Type 0} (r : Result T E) → is_err r ≡ true → OnErr r P → P
err_part (Ok x) e p = cc
err_part (Err x) e p = p

pub left_if : {T E : Type 0} {P : Type 0} (r : Result T E) → P → OnErr r P
left_if (Ok x) p = tt
left_if (Err x) p = p

-- a sending that failed, after the connection was shut
pub part_left : (a b c d : Option (List Exchange)) (to : Address) (message : List ℕ) → Added a (fresh to ∷ []) b → SentBroken b message c → d ≡ c → AsksPart a d to message
part_left a b c d to message opens part same = subst (λ o. AsksPart a o to message) (sym same) (part_asks a b c to message opens (sent_part b c message part))

-- a reading that broke off, after the connection was shut
pub whole_left : (a b c d e : Option (List Exchange)) (to : Address) (message : List ℕ) → Added a (fresh to ∷ []) b → Changed b (with_sent message) c → e ≡ d → asked_of d ≡ asked_of c → AsksPart a e to message
whole_left a b c d e to message opens sends same asked = subst (λ o. AsksPart a o to message) (sym same) (whole_asks a b c d to message opens sends asked)

-- what a call leaves that had a route and got no page
pub leaves : (message_for : Parts → List ℕ) (routes given : List Route) (text words : List ℕ) (old new : Option (List Exchange)) (url : Parts) (to : Address) (message : List ℕ) → given ≡ routes → words ≡ text
    → SaysTarget given words url to → message ≡ message_for url → AsksPart old new to message → LeavesBy message_for routes text old new
leaves message_for routes given text words old new url to message all same said is h =
    let says = subst (λ r. SaysTarget r text url to) all (subst (λ t. SaysTarget given t url to) same said) in
    inr (record { url = url; to = to; reads = says.reads; address = says.address; asks = subst (AsksPart old new to) is h })

-- what a call answered, page or fault
pub answers_by : (message_for : Parts → List ℕ) (routes : List Route) (text : List ℕ) (old new : Option (List Exchange)) (result : Result Page LinkFault)
    → IfOk result (GetsBy message_for routes text old new) → OnErr result (LeavesBy message_for routes text old new) → AnswersBy message_for routes text old new result
answers_by message_for routes text old new (Ok p) got left = got
answers_by message_for routes text old new (Err fault) got left = left

-- ---- no page had come where a call failed

empty_none : (p : Page) → IsPage [] false p → ⊥
unfolding head_end
empty_none p h = early_none [] refl (omega arith) p h

pub refused_broke : (a b : Option (List Exchange)) (to : Address) → AddedOrSilent a (with_failure (fresh to)) b → AddsBroken a b
refused_broke a b to (inl h) = inl (with_failure (fresh to), h, record { failed = refl; none = empty_none })
refused_broke a b to (inr h) = inr h

pub part_broke : (a b c d : Option (List Exchange)) (to : Address) (message : List ℕ) → Added a (fresh to ∷ []) b → SentBroken b message c → d ≡ c → AddsBroken a d
part_broke a b c d to message opens h same =
    let f : Exchange → Exchange = λ x. with_failure (with_sent (take h.0 message) x) in
    subst (AddsBroken a) (sym same) (inl (f (fresh to), added_on f (fresh to) a b c opens h.2, record { failed = refl; none = empty_none }))

page_broke : (a b c d : Option (List Exchange)) (to : Address) (message : List ℕ) → Added a (fresh to ∷ []) b → Changed b (with_sent message) c → Lacks (λ x. Changed c (with_broken x) d) → AddsBroken a d
page_broke a b c d to message opens sends lacks = inl (
  with_broken lacks.got (with_sent message (fresh to)),
  added_on (with_broken lacks.got) (with_sent message (fresh to)) a c d (added_on (with_sent message) (fresh to) a b c opens sends) lacks.came,
  record { failed = refl; none = lacks.none },
)

pub page_broke_if : (broke : List ℕ → Type 0) (a b c d e : Option (List Exchange)) (to : Address) (message : List ℕ) (r : Result Page Break) → Added a (fresh to ∷ []) b → Changed b (with_sent message) c → e ≡ d
    → ((x : List ℕ) → broke x → Changed c (with_broken x) d) → OnFailed r (Lacks broke) → OnFailed r (AddsBroken a e)
page_broke_if broke a b c d e to message (Ok p) opens sends same told h = tt
page_broke_if broke a b c d e to message (Err Failed) opens sends same told h =
    subst (AddsBroken a) (sym same) (page_broke a b c d to message opens sends (record { got = h.got; came = told h.got h.came; none = h.none }))
page_broke_if broke a b c d e to message (Err Memory) opens sends same told h = tt

pub none_came : {E : Type 0} (r : Result ℕ E) (a b : Option (List Exchange)) → OnErr r (Changed a with_failure b) → OnErr r (Changed a (with_broken []) b)
none_came (Ok n) a b h = tt
none_came (Err e) a b h = changed_on (with_received [] false) with_failure (with_broken []) (λ x. refl) a a b (received_none a) h
