-- What is asked, and how it is answered.
use Rattle.std.proofs.Common.{◌≡◌, ◌≢◌, ℕ, Option, Some, None, Result, Ok, Err, refl, sym, ap, subst}
use Rattle.std.specs.Prelude.{IfOk, IfSome}
use Rattle.fed_base.specs.declared.faults.Memory.{Memory}
use Rattle.http_messages.specs.declared.read.ReadEnd.{ReadEnd}
use Rattle.http_messages.specs.declared.request.Incoming.{Incoming}
use Rattle.http_messages.specs.declared.response.Response.{Response}
use Rattle.http_plain.specs.Responses.{HasReason}
use Rattle.authority_core.specs.Nodes.{Node as Authority}
use Rattle.node_requests.specs.declared.asked.Asked.{Asked}
use Rattle.node_requests.specs.declared.asked.Asked.TheVariants as asks
use Rattle.node_requests.specs.declared.change.AnchorChange.{AnchorChange}
use Rattle.node_requests.specs.declared.place.Place.{Place}
use Rattle.resolve_round.specs.declared.request.ResolveRequest.{ResolveRequest}
use Rattle.node_requests.specs.Requests.{kind_of}
use Rattle.turn_log.specs.declared.worn.Worn.{Worn}
use Rattle.fed_resolver.specs.declared.outcome.Outcome.{Outcome}
use Rattle.fed_serve.specs.declared.resolution.ResolveAnswer.{ResolveAnswer}
use Rattle.fed_serve.specs.Resolutions.{CallAt, IsAnswerTo as IsOutcomeAnswer, IsMade as IsMadeBy, Walking}
use Rattle.fed_serve.specs.ResolverResponses.{resolve_response}
use Rattle.fed_serve.specs.Rotations.{Dealing, IsDealtAnswer, asked, rotation_at, stranger, untested, worn}
use Rattle.fed_serve.specs.declared.handling.Answer.{Answer}
use Rattle.fed_serve.specs.declared.node.Node.{Node}
use Rattle.fed_serve.specs.Handlings.{Handles, Handling, IsIssued, Wants, dealt, issued, not_asked, resolved, unread}
use Rattle.fed_serve.specs.Steps.{ChangesKeys, IsAnswerTo, IsKeyAnswer, IsMade, IsOf, IsResolvedAnswer, IsTold, ResolvesEntity}
use Rattle.fed_serve.specs.Uses.{IsAlone, IsUnlinked, IsUnworn, IsWornBy}

-- ---- what is asked

-- what is wanted is handled so
pub handles : (place : Place) (came : Result Incoming ReadEnd) (a : Asked) (h : Handling) → Wants place came a → IsOf a h → Handles place came h
handles place came a unread wants is = absurd is
handles place came a not_asked wants is = absurd is
handles place came a (issued b) wants is = (subst (Wants place came) (sym is.0) wants, subst IsIssued (sym is.0) is.1)
handles place came a (resolved resolution outcome) wants is = subst (Wants place came) is wants
handles place came a (dealt change dealing) wants is = subst (Wants place came) is wants

pub others_issued : (a : Asked) → ((r : ResolveRequest) → a ≢ asks.Resolution r) → ((c : AnchorChange) → a ≢ asks.Rotation c) → IsIssued a
others_issued asks.Configuration first second = tt
others_issued (asks.Fetch sub) first second = tt
others_issued (asks.List query) first second = tt
others_issued asks.HistoricalKeys first second = tt
others_issued (asks.Status mark) first second = tt
others_issued (asks.Resolution resolution) first second = absurd (first resolution refl)
others_issued (asks.Rotation change) first second = absurd (second change refl)

-- ---- a resolved entity

outcome_made : (node : Node) (t : ℕ) (resolution : ResolveRequest) (outcome : Outcome) (before now : ℕ) (made : Result Response Memory)
    → IsMadeBy (resolve_response outcome.result) made → IsMade node.registry t (resolved resolution outcome) before now made
outcome_made node t resolution outcome before now (Ok r) is = (is.0, tt, is.1)
outcome_made node t resolution outcome before now (Err m) is = tt

outcome_told : (node : Node) (t : ℕ) (resolution : ResolveRequest) (outcome : Outcome) (before now : ℕ) (made : Result ResolveAnswer Worn) (result : Result Answer Worn)
    → IsOutcomeAnswer outcome made → IsResolvedAnswer made result → IsTold node.registry t (resolved resolution outcome) before now result
outcome_told node t resolution outcome before now (Ok m) (Ok answer) is told =
    subst (λ a. IsTold node.registry t (resolved resolution outcome) before now (Ok a)) (sym told)
    (is.0, refl, ap Some is.2, outcome_made node t resolution outcome before now m.response is.1)
outcome_told node t resolution outcome before now (Err w) (Err other) is told = subst (λ x. IsTold node.registry t (resolved resolution outcome) before now (Err x)) (sym told) is
outcome_told node t resolution outcome before now (Ok m) (Err other) is told = absurd told
outcome_told node t resolution outcome before now (Err w) (Ok answer) is told = absurd told

pub entity_answered : (node : Node) (walks : Walking) (t : ℕ) (before now : CallAt) (resolution : ResolveRequest) (result : Result Answer Worn)
    → ResolvesEntity node walks t before now resolution result → IsAnswerTo node walks t before now (asks.Resolution resolution) result
entity_answered node walks t before now resolution result entity = record {
  handling = resolved resolution entity.is.outcome;
  is = refl;
  does = record {
    uses = (entity.part, entity.has, entity.is.resolved);
    told = outcome_told node t resolution entity.is.outcome before.tests now.tests entity.made result entity.is.answered entity.told;
  };
}

-- ---- other keys

key_made : (node : Node) (t : ℕ) (change : AnchorChange) (dealing : Dealing) (before now : ℕ) (made : Result Response Memory)
    → IsDealtAnswer dealing (Ok made) → IsMade node.registry t (dealt change dealing) before now made
key_made node t change stranger before now (Ok r) is = (is.0, tt, is.1)
key_made node t change (asked reply) before now (Ok r) is = (is.0, tt, is.1)
key_made node t change worn before now (Ok r) is = absurd is
key_made node t change untested before now (Ok r) is = absurd is
key_made node t change dealing before now (Err m) is = tt

not_worn : (change : AnchorChange) (dealing : Dealing) (made : Result Response Memory) → IsDealtAnswer dealing (Ok made) → IsUnworn (dealt change dealing)
not_worn change stranger made is = tt
not_worn change (asked reply) made is = tt
not_worn change worn made is = absurd is
not_worn change untested made is = tt

worn_by : (change : AnchorChange) (dealing : Dealing) (w : Worn) → IsDealtAnswer dealing (Err w) → IsWornBy (dealt change dealing) w.count
worn_by change stranger w is = absurd is
worn_by change (asked reply) w is = absurd is
worn_by change worn w is = is
worn_by change untested w is = absurd is

key_told : (node : Node) (t : ℕ) (change : AnchorChange) (dealing : Dealing) (before now : ℕ) (made : Result (Result Response Memory) Worn) (result : Result Answer Worn)
    → IsDealtAnswer dealing made → IsKeyAnswer made result → IsTold node.registry t (dealt change dealing) before now result
key_told node t change dealing before now (Ok m) (Ok answer) is told =
    subst (λ a. IsTold node.registry t (dealt change dealing) before now (Ok a)) (sym told)
    (not_worn change dealing m is, refl, refl, key_made node t change dealing before now m is)
key_told node t change dealing before now (Err w) (Err other) is told =
    subst (λ x. IsTold node.registry t (dealt change dealing) before now (Err x)) (sym told) (worn_by change dealing w is)
key_told node t change dealing before now (Ok m) (Err other) is told = absurd told
key_told node t change dealing before now (Err w) (Ok answer) is told = absurd told

pub keys_answered : (node : Node) (walks : Walking) (t : ℕ) (before now : CallAt) (change : AnchorChange) (result : Result Answer Worn) → IsUnlinked before now
    → ChangesKeys node (rotation_at before.known before.tests) (rotation_at now.known now.tests) change result
    → IsAnswerTo node walks t before now (asks.Rotation change) result
keys_answered node walks t before now change result link keys = record {
  handling = dealt change keys.is.dealing;
  is = refl;
  does = record {
    uses = (keys.part, keys.has, link, keys.is.dealt);
    told = key_told node t change keys.is.dealing before.tests now.tests keys.made result keys.is.answered keys.told;
  };
}

-- ---- what holds of a part that is there

pub if_some : {A : Type 0} {P Q : A → Type 0} (o : Option A) → ((a : A) → P a → Q a) → IfSome o P → IfSome o Q
if_some None then is = tt
if_some (Some a) then is = then a is

-- ---- what an authority answers

pub issued_answered : (node : Node) (walks : Walking) (t : ℕ) (before now : CallAt) (a : Asked) (made : Result Response Memory) (answer : Answer)
    → IsAlone before now → IsIssued a → answer ≡ record { kind = kind_of a; response = made; trace = None } → IsMade node.registry t (issued a) before.tests now.tests made
    → IsAnswerTo node walks t before now a (Ok answer)
issued_answered node walks t before now a made answer alone issues is so = record {
  handling = issued a;
  is = (refl, issues);
  does = record {
    uses = alone;
    told = subst (λ x. IsTold node.registry t (issued a) before.tests now.tests (Ok x)) (sym is) (tt, refl, refl, so);
  };
}

-- a response that was made has a reason
pub has_reason : (node : Authority) (t : ℕ) (h : Handling) (before now : ℕ) (made : Result Response Memory) → IsMade node t h before now made
    → IfOk made (λ r. HasReason r.status)
has_reason node t h before now (Ok r) is = is.2
has_reason node t h before now (Err m) is = tt
