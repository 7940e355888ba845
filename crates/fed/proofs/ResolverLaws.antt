-- What is told of the end of a resolver, and the passes that are held then.
use Rattle.std.proofs.Common.{◌≡◌, ◌≢◌, ◌<◌, ℕ, List, Option, Some, None, refl, sym, subst, inl, inr, arith, lit<}
use Rattle.turn_log.specs.declared.pass.PassSeat.{PassSeat}
use Rattle.turn_log.specs.declared.group.Group.{Group}
use Rattle.statement_shelf.specs.Book.{Book}
use Rattle.statement_shelf.specs.Entries.{Part}
use Rattle.statement_shelf.specs.declared.calls.ShelfCall.{ShelfCall}
use Rattle.statement_shelf.specs.declared.calls.ShelfReply.{ShelfReply}
use Rattle.statement_shelf.specs.declared.calls.BookCall.{BookCall}
use Rattle.statement_shelf.specs.declared.calls.BookReply.{BookReply}
use Rattle.node_files.specs.Orders.{Order}
use Rattle.resolver_service.specs.declared.ending.ResolverEnd.{ResolverEnd}
use Rattle.resolver_service.specs.declared.ending.ResolverEnd.TheVariants as ends
use Rattle.resolver_service.specs.Batches.{ServiceViews}
use Rattle.resolver_service.specs.Ends.{At, Ends, EndsBy}
use Rattle.cli_words.specs.declared.service.Service.{Service}
use Rattle.cli_words.specs.declared.service.Service.TheVariants.{Resolver}
use Rattle.fed.specs.Authorities.{Outside, WritesLine}
use Rattle.fed.specs.Resolvers.{HasCountedAt, JoinsBy, RunsResolver}
use Rattle.fed.specs.Services.{RunsService}

-- a worn object was counted to its end
counted_at : {P N C : Type 0} (views : ServiceViews P N C) (order : Order) (before now : At P) (end : ResolverEnd) → EndsBy views order before now end → HasCountedAt end
counted_at views order before now (ends.Served pass) is = tt
counted_at views order before now ends.Input is = tt
counted_at views order before now ends.StoreFailed is = tt
counted_at views order before now ends.NetworkFailed is = tt
counted_at views order before now ends.Unsettled is = tt
counted_at views order before now ends.Memory is = tt
counted_at views order before now (ends.Worn pass) (counted, steady) = counted

pub counted_of : {P N C : Type 0} (views : ServiceViews P N C) (order : Order) (before now : At P) (end : ResolverEnd) → Ends views order before now end → HasCountedAt end
counted_of views order before now end is = counted_at views order before now end is.ended

module _ {S T : Type 0} (joined : Option (Group (PassSeat S Part ShelfCall ShelfReply) (PassSeat T Book BookCall BookReply))) (none : joined ≡ None) where
  -- no pass is handed out, and the status isn't 0
  pub joins_none : (end : ResolverEnd) (status : ℕ) → status ≢ 0 → JoinsBy end joined status
  joins_none end status other = record { held = λ zero. absurd (other zero); none = λ _. none }

-- the line tells no 0 where it is another's
pub line_other : (status : ℕ) (line : List ℕ) (old new : Option (List ℕ)) (before now result : ℕ) → WritesLine status line old new before now result → 0 < status → result ≢ 0
line_other status line old new before now result (inl (is, written, same)) some zero = absurd (omega (arith, is, some, zero))
line_other status line old new before now result (inr (four, written, rose)) some zero = absurd (omega (arith, four, zero))

-- a service is run as a resolver's is, where it is one
pub runs_resolver : {P N C S T : Type 0} (views : ServiceViews P N C) (service : Service) (before now : Outside P) (joined : Option (Group (PassSeat S Part ShelfCall ShelfReply) (PassSeat T Book BookCall BookReply))) (status : ℕ) (config : List ℕ) (port connections : ℕ)
    → service ≡ Resolver config port connections → RunsResolver views (record { config = config; post = record { port = port; connections = connections } }) before now joined status
    → RunsService views service before now joined status
runs_resolver views service before now joined status config port connections is runs = subst (λ s. RunsService views s before now joined status) (sym is) runs
