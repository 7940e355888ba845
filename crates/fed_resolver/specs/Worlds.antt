-- Any number of sessions on one cache and one book, in any order, and what each reply of theirs stands on.
use Rattle.std.specs.Prelude.{◌≡◌, ◌≢◌, ◌⊎◌, ◌+◌, ℕ, List, [], ◌∷◌, ◌++◌, length, AllPairs, nat_eq, MatchBool, Bool, true, slice_index_or, Option, Some, None, if◌then◌else◌}
use Rattle.std.specs.List.{filter_map}
use Rattle.fed_base.specs.Places.{HoldsBelow}
use Rattle.fed_ports.specs.declared.page.Page.{Page}
use Rattle.jwk_set.specs.declared.set.JwkSet.{JwkSet}
use Rattle.jwk_set.specs.declared.jwk.Jwk.{Jwk}
use Rattle.sealed.specs.Seals.{IsSealed, IsUnsealed, Pair, pair_of}
use Rattle.sealed.specs.Tests.{key_in}
use Rattle.entity_statement.specs.Claims.{Identifier}
use Rattle.turn_log.specs.Runs.{IsLegal}
use Rattle.statement_shelf.specs.declared.calls.AnchorKeys.{AnchorKeys}
use Rattle.statement_shelf.specs.declared.calls.Proven.{Proven}
use Rattle.statement_shelf.specs.declared.calls.ShelfCall.{ShelfCall}
use Rattle.statement_shelf.specs.declared.calls.ShelfCall.TheVariants.{Look, Put, Prove, Purge}
use Rattle.statement_shelf.specs.declared.calls.ShelfReply.{ShelfReply}
use Rattle.statement_shelf.specs.declared.calls.ShelfReply.TheVariants.{Hit}
use Rattle.statement_shelf.specs.declared.calls.BookCall.{BookCall}
use Rattle.statement_shelf.specs.declared.calls.BookCall.TheVariants.{Read}
use Rattle.statement_shelf.specs.declared.calls.BookReply.{BookReply}
use Rattle.statement_shelf.specs.declared.calls.BookReply.TheVariants.{Keys}
use Rattle.statement_shelf.specs.Entries.{part_of}
use Rattle.statement_shelf.specs.Shelf.{ShelfStep}
use Rattle.statement_shelf.specs.Book.{BookStep, opened_with}
use Rattle.statement_shelf.specs.Laws.{standing_keys}
use Rattle.chain_climb.specs.Elements.{Among}
use Rattle.chain_check.specs.Chains.{HasForm, Texts, statements_of}
use Rattle.chain_check.specs.Names.{HasNames}
use Rattle.chain_check.specs.Signatures.{AreCurrent}
use Rattle.chain_check.specs.Judging.{seal_keys, seal_place}
use Rattle.chain_check.specs.Validity.{Applies, IsValid, IsWithin, Merges, case_of}
use Rattle.resolve_round.specs.declared.trace.Check.{Check}
use Rattle.resolve_round.specs.declared.trace.Event.TheVariants.{Shelf}
use Rattle.resolve_round.specs.declared.trace.Trace.{Trace}
use Rattle.resolve_round.specs.Traces.{pair_in}

-- what a session does
pub data Happening : Type 0 where
  -- it calls a part of the cache, or the book, and gets a reply
  on_shelf : (session part : ℕ) (call : ShelfCall) (answer : ShelfReply) → Happening
  on_book : (session : ℕ) (call : BookCall) (answer : BookReply) → Happening
  -- it gets any page, or a fault, for a URL
  gets : (session : ℕ) (url : List ℕ) (page : Option Page) → Happening
  -- it tests a text under a key
  tests : (session : ℕ) (pair : Pair) (good : Bool) → Happening
  -- it replies with a chain up to an anchor, at a moment
  replies : (session : ℕ) (anchor : Identifier) (moment : ℕ) (chain : Texts) → Happening

-- the call on one part that a happening is, and that on the book
abbrev pub shelf_call : ℕ → Happening → Option (ShelfCall × ShelfReply)
shelf_call p (on_shelf session part call answer) = if nat_eq part p then Some (call, answer) else None
shelf_call p happening = None

abbrev pub book_call : Happening → Option (BookCall × BookReply)
book_call (on_book session call answer) = Some (call, answer)
book_call happening = None

-- the calls on one part, and those on the book, in their order
abbrev pub shelf_calls : ℕ → List Happening → List (ShelfCall × ShelfReply)
shelf_calls p happenings = filter_map (shelf_call p) happenings

abbrev pub book_calls : List Happening → List (BookCall × BookReply)
book_calls happenings = filter_map book_call happenings

-- a Prove is made only with a pair that verifies
abbrev pub ProvesSealed : ShelfCall → Type 0
ProvesSealed (Look url moment) = Unit {0}
ProvesSealed (Put url text until) = Unit {0}
ProvesSealed (Prove url seal) = IsSealed seal
ProvesSealed (Purge moment) = Unit {0}

-- and a test answers whether its pair does
abbrev pub IsHonest : Happening → Type 0
IsHonest (on_shelf session part call answer) = ProvesSealed call
IsHonest (on_book session call answer) = Unit {0}
IsHonest (gets session url page) = Unit {0}
IsHonest (tests session pair good) = MatchBool good (IsSealed pair) (IsUnsealed pair)
IsHonest (replies session anchor moment chain) = Unit {0}

-- the session tested the pair, and it was good; a Hit showed it the pair as proved
abbrev pub TestedGood : List Happening → ℕ → Pair → Type 0
TestedGood before session pair = Among (tests session pair true) before

pub record ShownProved (before : List Happening) (session : ℕ) (pair : Pair) : Type 0 where
  pub part : ℕ
  pub url : List ℕ
  pub moment : ℕ
  pub proven : Proven
  pub happened : Among (on_shelf session part (Look url moment) (Hit proven)) before
  pub text : proven.text ≡ pair.text
  pub key : Among pair.public proven.keys

-- the session knows that the text is sealed by the key of the set that its header names
pub record KnowsSealed (before : List Happening) (session : ℕ) (keys : List Jwk) (text : List ℕ) : Type 0 where
  pub public : List ℕ
  pub named : key_in keys text ≡ Some public
  pub known : TestedGood before session (pair_of text public) ⊎ ShownProved before session (pair_of text public)

-- the session's last Read of the anchor replied these keys
pub record LastRead (before : List Happening) (session : ℕ) (anchor : Identifier) : Type 0 where
  pub earlier : List Happening
  pub epoch : ℕ
  pub keys : JwkSet
  pub later : List Happening
  pub split : before ≡ earlier ++ on_book session (Read anchor) (Keys epoch keys) ∷ later
  pub last : (answer : BookReply) → ¬ Among (on_book session (Read anchor) answer) later

-- what a session has done before it replies with a chain
pub record MayReply (before : List Happening) (session : ℕ) (anchor : Identifier) (moment : ℕ) (chain : Texts) : Type 0 where
  pub read : LastRead before session anchor
  pub form : HasForm chain
  pub names : HasNames (statements_of chain) anchor
  pub current : AreCurrent (statements_of chain) moment
  -- it knows each seal that the chain needs: the leaf's by its own keys, and each text's by its superior's
  pub sealed : HoldsBelow (λ i. KnowsSealed before session (seal_keys (statements_of chain) read.keys.keys i) (slice_index_or chain (seal_place i) [])) (length chain + 1)
  pub within : IsWithin (statements_of chain)
  pub merges : Merges (statements_of chain)
  pub applies : Applies (statements_of chain)

-- what may happen: each object answers by its plain list, and each session does what it may; nothing else is asked of their order
pub record IsWorld (anchors : List AnchorKeys) (happenings : List Happening) : Type 0 where
  pub differ : AllPairs (λ (a b : AnchorKeys). a.anchor ≢ b.anchor) anchors
  pub shelf : (p : ℕ) → IsLegal ShelfStep [] (shelf_calls p happenings)
  pub book_history : IsLegal BookStep (opened_with anchors) (book_calls happenings)
  pub honest : (happening : Happening) → Among happening happenings → IsHonest happening
  pub reply_allowed : (before : List Happening) (session : ℕ) (anchor : Identifier) (moment : ℕ) (chain : Texts) (after : List Happening)
      → happenings ≡ before ++ replies session anchor moment chain ∷ after → MayReply before session anchor moment chain

-- the reply carries a chain that is valid under the keys of the session's last Read of the anchor, which are those of the anchor's
-- last rotation before that Read, or those that it was opened with
pub record StandsUnder (anchors : List AnchorKeys) (before : List Happening) (session : ℕ) (anchor : Identifier) (moment : ℕ) (chain : Texts) : Type 0 where
  pub read : LastRead before session anchor
  pub valid : IsValid (case_of chain anchor read.keys.keys moment)
  pub standing : standing_keys anchors anchor (book_calls read.earlier) ≡ Some read.keys

-- each reply of some happenings does
abbrev pub RepliesStand : List AnchorKeys → List Happening → Type 0
RepliesStand anchors happenings =
    (before : List Happening) (session : ℕ) (anchor : Identifier) (moment : ℕ) (chain : Texts) (after : List Happening)
    → happenings ≡ before ++ replies session anchor moment chain ∷ after → StandsUnder anchors before session anchor moment chain

-- ---- a call as a session

-- what a call's trace tells has happened to the session before
pub record IsToldIn (before : List Happening) (session : ℕ) (anchor : Identifier) (trace : Trace) : Type 0 where
  pub read : LastRead before session anchor
  pub keys : read.keys.keys ≡ trace.keys.keys
  pub looks : (url : List ℕ) (moment : ℕ) (answer : ShelfReply) → Among (Shelf (Look url moment) answer) trace.events
      → Among (on_shelf session (part_of url) (Look url moment) answer) before
  pub checks : (check : Check) → Among check trace.checks → Among (tests session (pair_in check) check.good) before
