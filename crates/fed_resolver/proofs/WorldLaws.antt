-- In a world each reply carries a valid chain, under the keys that its anchor had at the session's last Read.
use Rattle.std.proofs.Common.{◌≡◌, ◌<◌, ◌+◌, ◌⊎◌, ℕ, List, [], ◌∷◌, ◌++◌, length, Bool, true, false, cond, Some, None, refl, sym, ap, ◌∙◌, subst, inl, inr, append_assoc, eq-eqb, arith}
use Rattle.std.specs.Prelude.{nat_eq, slice_index_or, IfSome}
use Rattle.std.proofs.lemmas.List.Elements.{filter_map-append}
use Rattle.fed_base.specs.Places.{HoldsBelow}
use Rattle.jwk_set.specs.declared.jwk.Jwk.{Jwk}
use Rattle.sealed.specs.Seals.{IsSealed, IsSealedBy, Pair, pair_of}
use Rattle.entity_statement.specs.Signed.{statement_of}
use Rattle.turn_log.specs.Runs.{Runs}
use Rattle.statement_shelf.specs.declared.calls.AnchorKeys.{AnchorKeys}
use Rattle.statement_shelf.specs.declared.calls.BookCall.{BookCall}
use Rattle.statement_shelf.specs.declared.calls.BookCall.TheVariants.{Read}
use Rattle.statement_shelf.specs.declared.calls.BookReply.{BookReply}
use Rattle.statement_shelf.specs.declared.calls.BookReply.TheVariants.{Keys}
use Rattle.statement_shelf.specs.declared.calls.ShelfCall.{ShelfCall}
use Rattle.statement_shelf.specs.declared.calls.ShelfCall.TheVariants.{Look}
use Rattle.statement_shelf.specs.declared.calls.ShelfReply.{ShelfReply}
use Rattle.statement_shelf.specs.declared.calls.ShelfReply.TheVariants.{Hit}
use Rattle.statement_shelf.specs.Book.{Book, BookStep, opened_with}
use Rattle.statement_shelf.specs.Laws.{standing_keys}
use Rattle.statement_shelf.proofs.BookRuns.{read-tells-last}
use Rattle.chain_climb.specs.Elements.{Among}
use Rattle.chain_climb.proofs.Elements.{among-left}
use Rattle.chain_check.specs.Chains.{Texts, statements_of}
use Rattle.chain_check.specs.Signatures.{AreSigned}
use Rattle.chain_check.specs.Judging.{seal_keys, seal_place}
use Rattle.chain_check.proofs.JudgingLaws.{SealedAt, signed-below}
use Rattle.chain_check.proofs.SignatureLaws.{key_in-compact}
use Rattle.fed_resolver.specs.Worlds.{Happening, IsHonest, IsWorld, KnowsSealed, LastRead, MayReply, ProvesSealed, RepliesStand, ShownProved, TestedGood, book_call, book_calls, on_book, on_shelf, gets, tests, replies, shelf_call, shelf_calls}
use Rattle.fed_resolver.proofs.ElementLaws.{length-filter_map}
use Rattle.resolve_round.proofs.Elements.{among-filter_map, filter-among}
use Rattle.fed_resolver.proofs.ShelfLaws.{HitSealed, IsSealedUnder, hits-sealed}

-- a run that goes through a call comes to it by the calls before it
through : (x z : Book) (before : List (BookCall × BookReply)) (e : BookCall × BookReply) (after : List (BookCall × BookReply)) → Runs BookStep x (before ++ e ∷ after) z
    → (y : Book) × (next : Book) × Runs BookStep x before y × BookStep y e.0 e.1 next
through x z [] e after (next, step, rest) = (x, next, refl, step)
through x z (d ∷ before) e after (mid, step, rest) =
    let later = through mid z before e after rest in
    (later.0, later.1, (mid, step, later.2), later.3)

-- the Proves among the calls on a part are made with pairs that verify
chosen-sealed : (b : Bool) (call : ShelfCall) (answer : ShelfReply) → ProvesSealed call → IfSome (cond b (Some (call, answer)) None) (λ (e : ShelfCall × ShelfReply). ProvesSealed e.0)
chosen-sealed true call answer sealed = sealed
chosen-sealed false call answer sealed = tt

call-sealed : (p : ℕ) (h : Happening) → IsHonest h → IfSome (shelf_call p h) (λ (e : ShelfCall × ShelfReply). ProvesSealed e.0)
call-sealed p (on_shelf session part call answer) honest = chosen-sealed (nat_eq part p) call answer honest
call-sealed p (on_book session call answer) honest = tt
call-sealed p (gets session url page) honest = tt
call-sealed p (tests session pair good) honest = tt
call-sealed p (replies session anchor moment chain) honest = tt

-- a chain has no more statements than texts
few_statements : (texts : Texts) → length (statements_of texts) < length texts + 1
unfolding statements_of
few_statements texts = let few = length-filter_map statement_of texts in omega (arith, few)

module _ (anchors : List AnchorKeys) (happenings : List Happening) (world : IsWorld anchors happenings) where
  -- what hits show verifies
  proved-sealed : (p : ℕ) (e : ShelfCall × ShelfReply) → Among e (shelf_calls p happenings) → ProvesSealed e.0
  proved-sealed p e among =
      let made = filter-among (shelf_call p) e happenings among in
      subst (λ o. IfSome o (λ (x : ShelfCall × ShelfReply). ProvesSealed x.0)) made.2 (call-sealed p made.0 (world.honest made.0 made.1))

  hit-sealed : (p : ℕ) (e : ShelfCall × ShelfReply) → Among e (shelf_calls p happenings) → HitSealed e.0 e.1
  hit-sealed p = let legal = world.shelf p in hits-sealed legal.0 (shelf_calls p happenings) (proved-sealed p) legal.1

  module _ (before rest : List Happening) (split : happenings ≡ before ++ rest) (session : ℕ) where
    -- what has happened before has happened
    happened : (h : Happening) → Among h before → Among h happenings
    happened h among = subst (Among h) (sym split) (among-left h before rest among)

    -- what a session tested good or was shown as proved verifies
    shown-sealed : (pair : Pair) → ShownProved before session pair → IsSealed pair
    shown-sealed pair shown =
        let call : ShelfCall × ShelfReply = (Look shown.url shown.moment, Hit shown.proven) in
        let gives : shelf_call shown.part (on_shelf session shown.part (Look shown.url shown.moment) (Hit shown.proven)) ≡ Some call =
        ap (λ b. cond b (Some call) None) (eq-eqb shown.part shown.part refl) in
        let among = among-filter_map (shelf_call shown.part) (on_shelf session shown.part (Look shown.url shown.moment) (Hit shown.proven)) call gives happenings
        (happened (on_shelf session shown.part (Look shown.url shown.moment) (Hit shown.proven)) shown.happened) in
        subst (λ t. IsSealedUnder t pair.public) shown.text (hit-sealed shown.part call among pair.public shown.key)

    pair-sealed : (pair : Pair) → TestedGood before session pair ⊎ ShownProved before session pair → IsSealed pair
    pair-sealed pair (inl tested) = world.honest (tests session pair true) (happened (tests session pair true) tested)
    pair-sealed pair (inr shown) = shown-sealed pair shown

    known-sealed : (keys : List Jwk) (text : List ℕ) → KnowsSealed before session keys text → IsSealedBy text keys
    known-sealed keys text knows =
        let seal : IsSealedUnder text knows.public = pair-sealed (pair_of text knows.public) knows.known in
        record {
          compact = seal.compact;
          splits = seal.splits;
          public = knows.public;
          named = sym (key_in-compact keys text seal.compact seal.splits) ∙ knows.named;
          verifies = seal.verifies;
        }

    signed-chain : (keys : List Jwk) (chain : Texts)
        → HoldsBelow (λ i. KnowsSealed before session (seal_keys (statements_of chain) keys i) (slice_index_or chain (seal_place i) [])) (length chain + 1)
        → AreSigned chain (statements_of chain) keys
    signed-chain keys chain knows =
        let sealed : HoldsBelow (SealedAt chain (statements_of chain) keys) (length chain + 1) =
        λ i less. known-sealed (seal_keys (statements_of chain) keys i) (slice_index_or chain (seal_place i) []) (knows i less) in
        signed-below chain (statements_of chain) keys (length chain + 1) (length (statements_of chain)) sealed (few_statements chain)

    -- the keys of a Read are those that stand after the calls before it
    read-keys : (anchor : List ℕ) (read : LastRead before session anchor) → standing_keys anchors anchor (book_calls read.earlier) ≡ Some read.keys
    read-keys anchor read =
        let event : Happening = on_book session (Read anchor) (Keys read.epoch read.keys) in
        let whole : happenings ≡ read.earlier ++ event ∷ (read.later ++ rest) = split ∙ ap (λ hs. hs ++ rest) read.split ∙ append_assoc read.earlier (event ∷ read.later) rest in
        let calls : book_calls happenings ≡ book_calls read.earlier ++ (Read anchor, Keys read.epoch read.keys) ∷ book_calls (read.later ++ rest) =
        ap book_calls whole ∙ filter_map-append book_call read.earlier (event ∷ (read.later ++ rest)) in
        let legal = world.book_history in
        let at = through (opened_with anchors) legal.0 (book_calls read.earlier) (Read anchor, Keys read.epoch read.keys) (book_calls (read.later ++ rest))
        (subst (λ cs. Runs BookStep (opened_with anchors) cs legal.0) calls legal.1) in
        read-tells-last anchors (book_calls read.earlier) at.0 at.1 anchor read.epoch read.keys at.2 at.3

-- each reply stands
pub world-replies : (anchors : List AnchorKeys) (happenings : List Happening) → IsWorld anchors happenings → RepliesStand anchors happenings
world-replies anchors happenings world before session anchor moment chain after split =
    let may : MayReply before session anchor moment chain = world.reply_allowed before session anchor moment chain after split in
    let rest = replies session anchor moment chain ∷ after in
    record {
      read = may.read;
      valid = record {
        form = may.form;
        names = may.names;
        current = may.current;
        signed = signed-chain anchors happenings world before rest split session may.read.keys.keys chain may.sealed;
        within = may.within;
        merges = may.merges;
        applies = may.applies;
      };
      standing = read-keys anchors happenings world before rest split session anchor may.read;
    }
