-- What a pass that began alone has seen of the cache and of the book.
use Rattle.std.proofs.Common.{◌≡◌, ℕ, zero, suc, List, [], ◌∷◌, length, refl, subst, arith}
use Rattle.std.specs.declared.snapshot.Snapshot.{Snapshot}
use Rattle.turn_log.specs.Gains.{calls_of}
use Rattle.turn_log.specs.Groups.{IsHistory, known}
use Rattle.turn_log.specs.Parts.{AllOwned, account_at}
use Rattle.turn_log.specs.Places.{places_below}
use Rattle.turn_log.specs.Runs.{IsLegal}
use Rattle.turn_log.specs.declared.kept.KeptTable.{KeptTable}
use Rattle.turn_log.specs.declared.pass.PassSeat.{PassSeat}
use Rattle.turn_log.specs.declared.group.Group.{Group}
use Rattle.statement_shelf.specs.Book.{Book, BookStep, opened_with}
use Rattle.statement_shelf.specs.Entries.{Part}
use Rattle.statement_shelf.specs.Passes.{CommonsPass, opened_book}
use Rattle.statement_shelf.specs.Shelf.{ShelfStep}
use Rattle.statement_shelf.specs.declared.calls.AnchorKeys.{AnchorKeys}
use Rattle.statement_shelf.specs.declared.commons.SharedCommons.{SharedCommons}
use Rattle.resolve_round.specs.declared.trace.Event.{Event}
use Rattle.resolve_round.specs.Acts.{GainsEvents, IsKept, on_book, on_part}
use Rattle.resolve_call.specs.Alone.{HasSeenOnly}
use Rattle.resolve_call.specs.CallSteps.{IsNew}
use Rattle.resolve_call.proofs.OwnCalls.{own-seen}

-- each call on each object is its own
owns-at : {S X C R : Type 0} (passes : List (PassSeat S X C R)) → AllOwned passes → (n : ℕ) → (account_at passes n).mine ≡ places_below (length (account_at passes n).seen)
owns-at [] owned n = refl
owns-at (p ∷ passes) owned zero = (owned 0 p (omega arith)).1
owns-at (p ∷ passes) owned (suc n) = owns-at passes (λ i q less. owned (suc i) q (omega (arith, less))) n

module _ {S V Q T W U : Type 0} (commons : SharedCommons (Group (KeptTable S V (Snapshot Part) Q) (KeptTable T W (Snapshot Book) U))) (anchors : List AnchorKeys)
    (old new : CommonsPass S T) (fresh : IsNew commons anchors old) where
  -- what it has seen are the events' calls, and no others
  pub seen-only : (events : List Event) → IsKept commons old new → GainsEvents (known old) (known new) events → HasSeenOnly events (known new)
  seen-only events kept gains =
      let own = kept.whole fresh.whole in
      record {
        parts = λ p. own-seen ((known old).part p) ((known new).part p) (calls_of (on_part p) events) (fresh.unused.parts_unused p) (gains.parts p) (owns-at new.parts.items own.parts_owned p);
        book = own-seen (known old).book (known new).book (calls_of on_book events) fresh.unused.book_unused gains.book own.book_owned.1;
      }

  -- it is legal from the opened book on
  pub history-opened : IsHistory ShelfStep [] BookStep (opened_book commons) (known new) → IsHistory ShelfStep [] BookStep (opened_with anchors) (known new)
  history-opened history = subst (λ book. IsHistory ShelfStep [] BookStep book (known new)) fresh.opened history

  -- and so are the events' calls on the book
  pub legal-book : (events : List Event) → HasSeenOnly events (known new) → IsHistory ShelfStep [] BookStep (opened_with anchors) (known new) → IsLegal BookStep (opened_with anchors) (calls_of on_book events)
  legal-book events all history = subst (IsLegal BookStep (opened_with anchors)) all.book history.book_legal
