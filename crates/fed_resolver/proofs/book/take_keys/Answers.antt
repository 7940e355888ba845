use Rattle.std.proofs.Common.{◌≡◌, ℕ, List, [], ◌∷◌, get_or, sym, ap, ◌∙◌, rules}
use Rattle.statement_shelf.specs.declared.calls.BookCall.{BookCall}
use Rattle.statement_shelf.specs.declared.calls.BookCall.TheVariants.{Read}
use Rattle.statement_shelf.specs.declared.calls.BookReply.{BookReply}
use Rattle.resolve_round.specs.declared.trace.Event.{Event}
use Rattle.resolve_round.specs.declared.trace.Event.TheVariants.{Book}
use Rattle.fed_resolver.proofs.book.take_keys.Goals as goal

-- the reply of the one event
replied : (events : List Event) (x : Event) (anchor : List ℕ) (answer reply : BookReply) (call : BookCall) → events ≡ Book (Read anchor) answer ∷ [] → x ≡ get_or events 0 x → x ≡ Book call reply → answer ≡ reply
replied events x anchor answer reply call is there same =
    let both : Book (Read anchor) answer ≡ Book call reply = sym (ap (λ l. get_or l 0 x) is) ∙ sym there ∙ same in
    cc both

pub returns-in-NoAnchor : goal.returns-in-NoAnchor
returns-in-NoAnchor c = search rules
