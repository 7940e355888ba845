-- The same bytes have the same answer of an authority.
use Rattle.std.proofs.Common.{◌≡◌, ◌≢◌, ℕ, List, Option, Some, None, Result, Ok, Err, refl, sym, ap, ap₂, ◌∙◌, subst, inl, inr}
use Rattle.http_messages.specs.declared.read.ReadEnd.{ReadEnd}
use Rattle.http_messages.specs.declared.request.Incoming.{Incoming}
use Rattle.http_messages.specs.declared.response.Response.{Response}
use Rattle.fed_ports.specs.Times.{clock_at}
use Rattle.http_plain.specs.Readings.{Reads}
use Rattle.authority_core.specs.Nodes.{Node as Authority}
use Rattle.node_requests.specs.declared.kind.Kind.{Kind}
use Rattle.node_requests.specs.declared.place.Place.{Place}
use Rattle.resolve_round.specs.declared.trace.Trace.{Trace}
use Rattle.fed_serve.specs.declared.part.ResolverPart.{ResolverPart}
use Rattle.fed_serve.specs.Resolutions.{CallAt, Walking}
use Rattle.fed_serve.specs.declared.answering.Answered.{Answered}
use Rattle.fed_serve.specs.declared.answering.AnswerEnd.{AnswerEnd}
use Rattle.fed_serve.specs.declared.answering.AnswerEnd.TheVariants.{Worn as WornAnswer, Memory}
use Rattle.fed_serve.specs.declared.node.Node.{Node}
use Rattle.fed_serve.specs.declared.served.Served.{Served}
use Rattle.fed_serve.specs.declared.serving.ServeFault.{ServeFault}
use Rattle.fed_serve.specs.declared.serving.ServeFault.TheVariants.{ReadFault, WriteFault, Ended, Worn}
use Rattle.fed_serve.specs.Authorities.{ServesAsAuthority}
use Rattle.fed_serve.specs.Handlings.{Handles, Handling, dealt, issued, kind_of, not_asked, resolved, unread}
use Rattle.fed_serve.specs.Moments.{AnswerAt, Around, answer_at, answer_in}
use Rattle.fed_serve.specs.Places.{place_of}
use Rattle.fed_serve.specs.Responses.{response_of}
use Rattle.fed_serve.specs.Answering.{Answers, AnswersAsAuthority, AnswersAtMoment, Came, HandsOut, IsMessage, IsWornAt}
use Rattle.fed_serve.specs.Serving.{IsServed, Serves}
use Rattle.fed_serve.specs.Uses.{Has, IsAlone, IsWornBy, Uses}
use Rattle.fed_serve.proofs.Causes.{not_both, one_wanted}

-- ---- a node without a part for resolving

-- answers as an authority
abbrev IsAuthoritys : Handling → Type 0
IsAuthoritys (resolved resolution outcome) = ⊥
IsAuthoritys (dealt change dealing) = ⊥
IsAuthoritys handling = Unit {0}

no_part : {X : Type 0} (node : Node) (part : ResolverPart) → node.resolver ≡ None → Has node part → X
no_part node part none has = let e : None ≡ Some part = sym none ∙ has in cc e

authoritys : (node : Node) (walks : Walking) (t : ℕ) (before now : CallAt) (h : Handling) → node.resolver ≡ None → Uses node walks t before now h → IsAuthoritys h
authoritys node walks t before now unread none uses = tt
authoritys node walks t before now not_asked none uses = tt
authoritys node walks t before now (issued a) none uses = tt
authoritys node walks t before now (resolved resolution outcome) none uses = no_part node uses.0 none uses.1
authoritys node walks t before now (dealt change dealing) none uses = no_part node uses.0 none uses.1

pub alone : (node : Node) (walks : Walking) (t : ℕ) (before now : CallAt) (h : Handling) → node.resolver ≡ None → Uses node walks t before now h → IsAlone before now
alone node walks t before now unread none uses = uses
alone node walks t before now not_asked none uses = uses
alone node walks t before now (issued a) none uses = uses
alone node walks t before now (resolved resolution outcome) none uses = no_part node uses.0 none uses.1
alone node walks t before now (dealt change dealing) none uses = no_part node uses.0 none uses.1

untraced : (h : Handling) (trace : Option Trace) → IsAuthoritys h → HandsOut h trace → trace ≡ None
untraced unread trace is out = out
untraced not_asked trace is out = out
untraced (issued a) trace is out = out
untraced (resolved resolution outcome) trace is out = absurd is
untraced (dealt change dealing) trace is out = absurd is

-- ---- one answer

-- what is answered with another status than 507 has its own response
own : (node : Authority) (t : ℕ) (h : Handling) (before now : ℕ) (response : Response) → IsMessage node t h before now response → response.status ≢ 507
    → response_of node t h ≡ Some response
own node t h before now response (inl is) other = is.0
own node t h before now response (inr is) other = absurd (other (ap (λ (r : Response). r.status) is.0))

-- it was read whole
whole : {X : Type 0} (place : Place) (node : Authority) (t : ℕ) (came : Result Incoming ReadEnd) (h : Handling) (response : Response) → Handles place came h → IsAuthoritys h
    → response_of node t h ≡ Some response → ((incoming : Incoming) → came ≡ Ok incoming → X) → X
whole place node t (Ok incoming) h response handles its is then = then incoming refl
whole place node t (Err fault) unread response handles its is then = cc is
whole place node t (Err fault) not_asked response handles its is then = absurd handles
whole place node t (Err fault) (issued a) response handles its is then = absurd handles.0
whole place node t (Err fault) (resolved resolution outcome) response handles its is then = absurd its
whole place node t (Err fault) (dealt change dealing) response handles its is then = absurd its

one_came : (x : List ℕ) (c d : Result Incoming ReadEnd) (i j : Incoming) → Reads x c → Reads x d → c ≡ Ok i → d ≡ Ok j → d ≡ c
one_came x (Ok i') (Ok j') i j first second is also = first.only (Ok j') second.fits
one_came x (Err e) d i j first second is also = cc is
one_came x c (Err e) i j first second is also = cc also

one_handling : (place : Place) (came : Result Incoming ReadEnd) (node : Authority) (t : ℕ) (h k : Handling) (r s : Response) → Handles place came h → Handles place came k
    → IsAuthoritys h → IsAuthoritys k → response_of node t h ≡ Some r → response_of node t k ≡ Some s → h ≡ k
one_handling place came node t not_asked not_asked r s first second its theirs is also = refl
one_handling place came node t (issued a) (issued b) r s first second its theirs is also = ap issued (one_wanted place came a b first.0 second.0)
one_handling place came node t not_asked (issued b) r s first second its theirs is also = not_both place came b second.0 first
one_handling place came node t (issued a) not_asked r s first second its theirs is also = not_both place came a first.0 second
one_handling place came node t unread k r s first second its theirs is also = cc is
one_handling place came node t h unread r s first second its theirs is also = cc also
one_handling place came node t (resolved resolution outcome) k r s first second its theirs is also = absurd its
one_handling place came node t (dealt change dealing) k r s first second its theirs is also = absurd its
one_handling place came node t h (resolved resolution outcome) r s first second its theirs is also = absurd theirs
one_handling place came node t h (dealt change dealing) r s first second its theirs is also = absurd theirs

one_response : (o : Option Response) (r s : Response) → o ≡ Some r → o ≡ Some s → r ≡ s
one_response o r s is also = let same : Some r ≡ Some s = sym is ∙ also in cc same

served_is : (s t : Served) → s.kind ≡ t.kind → s.status ≡ t.status → s.trace ≡ None → t.trace ≡ None → s ≡ t
served_is s t kind status first second =
    ap₂ (λ (k : Kind) (n : ℕ). record { kind = k; status = n; trace = s.trace }) kind status
    ∙ ap (λ (o : Option Trace). record { kind = t.kind; status = t.status; trace = o }) (first ∙ sym second)

pub one_answer : (node : Node) (v w : Walking) (x : List ℕ) (a a' b b' : Around) (c d : Result Incoming ReadEnd) (s t : Served) → node.resolver ≡ None → Reads x c → Reads x d
    → a'.clock.last ≡ b'.clock.last → (first : IsServed node v a a' c s) → (second : IsServed node w b b' d t) → s.status ≢ 507 → t.status ≢ 507
    → (s ≡ t) × (first.response ≡ second.response)
one_answer node v w x a a' b b' c d s t none reads also moment first second other another =
    let place = place_of node in
    let registry = node.registry in
    let its = authoritys node v a'.clock.last a.call a'.call first.handling none first.handled.uses in
    let theirs = authoritys node w b'.clock.last b.call b'.call second.handling none second.handled.uses in
    let mine = own registry a'.clock.last first.handling a.call.tests a'.call.tests first.response first.handled.message (λ e. other (first.status ∙ e)) in
    let yours = own registry b'.clock.last second.handling b.call.tests b'.call.tests second.response second.handled.message (λ e. another (second.status ∙ e)) in
    let yours_then = subst (λ m. response_of registry m second.handling ≡ Some second.response) (sym moment) yours in
    whole place registry a'.clock.last c first.handling first.response first.handled.handles its mine (λ i is.
    whole place registry b'.clock.last d second.handling second.response second.handled.handles theirs yours (λ j was.
    let came = one_came x c d i j reads also is was in
    let same = one_handling place c registry a'.clock.last first.handling second.handling first.response second.response first.handled.handles
    (subst (λ e. Handles place e second.handling) came second.handled.handles) its theirs mine yours_then in
    let response = one_response (response_of registry a'.clock.last first.handling) first.response second.response mine
    (subst (λ h. response_of registry a'.clock.last h ≡ Some second.response) (sym same) yours_then) in (
      served_is s t (first.kind ∙ ap kind_of same ∙ sym second.kind) (first.status ∙ ap (λ (r : Response). r.status) response ∙ sym second.status)
          (untraced first.handling s.trace its first.trace) (untraced second.handling t.trace theirs second.trace),
      response,
    )))

-- ---- a node that doesn't resolve leaves the shared objects and the link alone

unchanged : (before now : CallAt) → now ≡ before → IsAlone before now
unchanged before now is = record {
  known = ap (λ (c : CallAt). c.known) is;
  link = record {
    web = ap (λ (c : CallAt). c.web) is;
    calls = ap (λ (c : CallAt). c.calls) is;
    faults = ap (λ (c : CallAt). c.faults) is;
  };
}

not_worn : {X : Type 0} (h : Handling) (count : ℕ) → IsAuthoritys h → IsWornBy h count → X
not_worn unread count its is = absurd is
not_worn not_asked count its is = absurd is
not_worn (issued a) count its is = absurd is
not_worn (resolved resolution outcome) count its is = absurd its
not_worn (dealt change dealing) count its is = absurd its

unworn_at : {X : Type 0} (node : Node) (walks : Walking) (before now : AnswerAt) (came : Came) (count : ℕ) → node.resolver ≡ None
    → IsWornAt node walks before now came count → X
unworn_at node walks before now came count none is =
    not_worn is.handling count (authoritys node walks now.clock.last before.call now.call is.handling none is.uses) is.worn

pub answers_as_authority : (node : Node) (walks : Walking) (before now : AnswerAt) (asked : Incoming) (result : Result Answered AnswerEnd) → node.resolver ≡ None
    → Answers node walks before now asked result → AnswersAsAuthority before.call now.call result
answers_as_authority node walks before now asked (Ok a) none is =
    let uses = is.handled.uses in
    let its = authoritys node walks now.clock.last before.call now.call is.handling none uses in
    record {
      alone = alone node walks now.clock.last before.call now.call is.handling none uses;
      unworn = λ count e. cc e;
      untraced = λ other e. let same : a ≡ other = cc e in
          subst (λ (x : Answered). x.served.trace ≡ None) same (untraced is.handling a.served.trace its is.trace);
    }
answers_as_authority node walks before now asked (Err Memory) none is = record {
  alone = alone node walks now.clock.last before.call now.call is.handling none is.handled.uses;
  unworn = λ count e. cc e;
  untraced = λ other e. cc e;
}
answers_as_authority node walks before now asked (Err (WornAnswer count)) none is = unworn_at node walks before now (Ok asked) count none is

-- at a moment that anybody read
pub answers_alone : (node : Node) (walks : Walking) (t : ℕ) (before now : CallAt) (asked : Incoming) (result : Result Answered AnswerEnd)
    → AnswersAtMoment node walks t before now asked result → node.resolver ≡ None → AnswersAsAuthority before now result
answers_alone node walks t before now asked result is none =
    let clock = clock_at 0 0 None in
    let clock' = clock_at 1 t None in
    answers_as_authority node walks (answer_at clock before) (answer_at clock' now) asked result none (is clock clock' (record { counted = refl; added = inl refl }) refl)

pub as_authority : (node : Node) (walks : Walking) (before now : Around) (result : Result Served ServeFault) → node.resolver ≡ None → Serves node walks before now result
    → ServesAsAuthority before now result
as_authority node walks before now (Ok served) none serves =
    let is = serves.answered served refl in
    let uses = is.handled.uses in
    let its = authoritys node walks now.clock.last before.call now.call is.handling none uses in
    record {
      alone = alone node walks now.clock.last before.call now.call is.handling none uses;
      unworn = λ count e. cc e;
      untraced = λ other e. let same : served ≡ other = cc e in
          subst (λ (s : Served). s.trace ≡ None) same (untraced is.handling served.trace its is.trace);
    }
as_authority node walks before now (Err Ended) none serves = record {
  alone = unchanged before.call now.call (serves.silent (inl refl)).call;
  unworn = λ count e. cc e;
  untraced = λ other e. cc e;
}
as_authority node walks before now (Err ReadFault) none serves = record {
  alone = unchanged before.call now.call (serves.silent (inr refl)).call;
  unworn = λ count e. cc e;
  untraced = λ other e. cc e;
}
as_authority node walks before now (Err WriteFault) none serves =
    let is = serves.cut refl in
    record {
      alone = alone node walks now.clock.last before.call now.call is.handling none is.handled.uses;
      unworn = λ count e. cc e;
      untraced = λ other e. cc e;
    }
as_authority node walks before now (Err (Worn n)) none serves =
    let is = serves.worn n refl in
    unworn_at node walks (answer_in before) (answer_in now) serves.came n none is.is
