-- Whole outcomes of calls: a leaf that refuses its configuration, an anchor that isn't listed, and an anchor that resolves itself.
use Rattle.std.specs.Prelude.{◌≡◌, ℕ, List, [], ◌∷◌, true, false, Some, Ok, Err}
use Rattle.fed_json.specs.declared.tree.Json.{Json}
use Rattle.fed_ports.specs.declared.page.Page.TheVariants as page
use Rattle.jwk_set.specs.declared.set.JwkSet.{JwkSet}
use Rattle.entity_id.specs.Urls.{well_known_of}
use Rattle.sealed.specs.Seals.{IsSealed}
use Rattle.sealed.specs.Sealing.{sealed_text}
use Rattle.sealed.specs.Tests.{key_in}
use Rattle.entity_statement.specs.Claims.{Claims, Identifier}
use Rattle.entity_statement.specs.Signed.{statement_of}
use Rattle.chain_check.specs.Chains.{statements_of}
use Rattle.chain_check.specs.Validity.{IsValid, ResolvesTo, case_of}
use Rattle.chain_check.specs.Verdicts.{least_exp}
use Rattle.chain_climb.specs.declared.want.Bounds.{Bounds}
use Rattle.chain_climb.specs.Climbs.{alone, configuration_of}
use Rattle.statement_shelf.specs.declared.calls.ShelfCall.TheVariants.{Look, Put, Prove}
use Rattle.statement_shelf.specs.declared.calls.ShelfReply.TheVariants as reply
use Rattle.statement_shelf.specs.declared.calls.BookCall.TheVariants.{Read}
use Rattle.statement_shelf.specs.declared.calls.BookReply.TheVariants as book
use Rattle.resolve_round.specs.declared.request.ResolveRequest.{ResolveRequest}
use Rattle.resolve_round.specs.declared.trace.Event.{Event}
use Rattle.resolve_round.specs.declared.trace.Event.TheVariants.{Shelf, Book}
use Rattle.resolve_round.specs.declared.trace.Got.TheVariants.{Fetched}
use Rattle.resolve_round.specs.Courses.{Course, finished, found}
use Rattle.resolve_round.specs.Pages.{good_text}
use Rattle.resolve_round.specs.Traces.{kept_text}
use Rattle.fed_resolver.specs.declared.outcome.Outcome.{Outcome}
use Rattle.fed_resolver.specs.declared.outcome.Refusal.TheVariants.{NoAnchor, NotFound}
use Rattle.resolve_reply.specs.declared.said.Said.{Said}
use Rattle.resolve_reply.specs.declared.signer.Signer.{Signer}
use Rattle.resolve_reply.specs.Replies.{cut_to, reply_claims, reply_type}
use Rattle.fed_resolver.specs.Told.{Situation}

-- a round whose leaf refuses its configuration
abbrev pub refused_course : Identifier → Course
refused_course leaf = record {
  search = record {
    leaf = leaf;
    asks = record { url = well_known_of leaf; got = Fetched (page.Refusal 404) } ∷ [];
    hits = 0;
    calls = 1;
    paths = 0;
    faults = 0;
    ended = false;
  };
  looks = true;
  needs = configuration_of leaf ∷ [];
  stop = finished;
}

-- the outcome of a call that makes this round and no other
abbrev pub refused_outcome : Situation → ℕ → JwkSet → Outcome
refused_outcome here epoch set = record {
  result = Err NotFound;
  trace = record {
    moment = here.moment;
    epoch = epoch;
    keys = set;
    bounds = here.bounds;
    searches = (refused_course here.request.sub).search ∷ [];
    checks = [];
    events = Book (Read here.request.anchor) (book.Keys epoch set) ∷ Shelf (Look (well_known_of here.request.sub) here.moment) reply.Miss ∷ [];
  };
}

-- the outcome of a call for an anchor that isn't listed
abbrev pub unlisted_outcome : Situation → JwkSet → Outcome
unlisted_outcome here set = record {
  result = Err NoAnchor;
  trace = record {
    moment = here.moment;
    epoch = 0;
    keys = set;
    bounds = here.bounds;
    searches = [];
    checks = [];
    events = Book (Read here.request.anchor) book.NoAnchor ∷ [];
  };
}

-- ---- an anchor that resolves itself

-- the call: the anchor is asked for under itself
abbrev pub self_situation : ResolveRequest → Bounds → ℕ → ℕ → Situation
self_situation request bounds age moment = record { request = record request { sub = request.anchor }; age = age; moment = moment; bounds = bounds }

-- its configuration, with the key under which it is sealed, and what its chain of one text resolves to
pub record IsSelf (here : Situation) (set : JwkSet) : Type 0 where
  pub text : List ℕ
  pub own : Claims
  pub reads : statement_of text ≡ Some own
  pub good : good_text here.moment (configuration_of here.request.anchor) text ≡ Some own
  pub until : ℕ
  pub kept : kept_text here.moment here.age (configuration_of here.request.anchor) text ≡ Some (record { url = well_known_of here.request.anchor; text = text; until = until })
  pub unmarked : own.marks ≡ []
  pub public : List ℕ
  pub own_key : key_in own.keys text ≡ Some public
  pub anchor_key : key_in set.keys text ≡ Some public
  pub sealed : IsSealed (record { text = text; public = public })
  pub valid : IsValid (case_of (text ∷ []) here.request.anchor set.keys here.moment)
  pub metadata : Json
  pub resolves : ResolvesTo (statements_of (text ∷ [])) metadata

-- the one round: the page is looked up, fetched and good, and the path of one entity is valid
abbrev pub self_course : Identifier → List ℕ → Course
self_course entity text = record {
  search = record {
    leaf = entity;
    asks = record { url = well_known_of entity; got = Fetched (page.Document text) } ∷ [];
    hits = 0;
    calls = 1;
    paths = 1;
    faults = 0;
    ended = false;
  };
  looks = true;
  needs = configuration_of entity ∷ [];
  stop = found (alone entity);
}

-- what the call does on the shelf
abbrev pub self_work : Identifier → ℕ → List ℕ → ℕ → List ℕ → List Event
self_work entity moment text until public =
    Shelf (Look (well_known_of entity) moment) reply.Miss
    ∷ Shelf (Put (well_known_of entity) text until) reply.Done
    ∷ Shelf (Prove (well_known_of entity) (record { text = text; public = public })) reply.Done
    ∷ []

-- what it says
abbrev pub self_said : (here : Situation) (set : JwkSet) → IsSelf here set → Said
self_said here set self = record {
  sub = here.request.anchor;
  iat = here.moment;
  exp = least_exp (statements_of (self.text ∷ []));
  metadata = cut_to here.request.types self.metadata;
  chain = self.text ∷ [];
  marks = [];
}

-- the outcome: one look, one fetch, one put, one test, one proof, and the reply
abbrev pub self_outcome : (here : Situation) (signer : Signer) (epoch : ℕ) (set : JwkSet) → IsSelf here set → Outcome
self_outcome here signer epoch set self = record {
  result = Ok (record {
    claims = reply_claims signer.iss (self_said here set self);
    text = sealed_text signer.keys reply_type (reply_claims signer.iss (self_said here set self));
    chain_exp = least_exp (statements_of (self.text ∷ []));
    configs = [];
  });
  trace = record {
    moment = here.moment;
    epoch = epoch;
    keys = set;
    bounds = here.bounds;
    searches = (self_course here.request.anchor self.text).search ∷ [];
    checks = record { text = self.text; public = self.public; good = true } ∷ [];
    events = Book (Read here.request.anchor) (book.Keys epoch set) ∷ self_work here.request.anchor here.moment self.text self.until self.public;
  };
}
