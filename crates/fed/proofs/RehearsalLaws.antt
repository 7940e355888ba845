-- What is told of a rehearsal, and the pass that is held then.
use Rattle.std.proofs.Common.{◌≡◌, ℕ, Option, None, Result, Ok, Err, sym, subst, inl, inr, lit<}
use Rattle.turn_log.specs.declared.pass.PassSeat.{PassSeat}
use Rattle.turn_log.specs.declared.group.Group.{Group}
use Rattle.statement_shelf.specs.Book.{Book}
use Rattle.statement_shelf.specs.Entries.{Part}
use Rattle.statement_shelf.specs.declared.calls.ShelfCall.{ShelfCall}
use Rattle.statement_shelf.specs.declared.calls.ShelfReply.{ShelfReply}
use Rattle.statement_shelf.specs.declared.calls.BookCall.{BookCall}
use Rattle.statement_shelf.specs.declared.calls.BookReply.{BookReply}
use Rattle.rehearsal.specs.declared.fault.RehearsalFault.{RehearsalFault}
use Rattle.rehearsal.specs.declared.fault.RehearsalFault.TheVariants.{Worn, Memory}
use Rattle.rehearsal.specs.declared.summary.Summary.{Summary}
use Rattle.rehearsal.specs.Rehearsals.{HoldsWornBy}
use Rattle.resolver_service.specs.Batches.{ServiceViews}
use Rattle.cli_words.specs.declared.service.Service.{Service}
use Rattle.cli_words.specs.declared.service.Service.TheVariants.{Rehearse}
use Rattle.fed.specs.Authorities.{Outside}
use Rattle.fed.specs.Rehearsals.{IsRehearsedAs, IsToldBy}
use Rattle.fed.specs.Resolving.{HoldsBy, Written, written_in}
use Rattle.fed.specs.Services.{RunsService}
use Rattle.fed.proofs.ResolveLaws.{holds-none, lines-other, silent-other}

module _ {S T : Type 0} (worn : Option (Group (PassSeat S Part ShelfCall ShelfReply) (PassSeat T Book BookCall BookReply))) where
  -- a pass is held where an object was worn, and that is status 8
  pub holds-rehearsed : (result : Result Summary RehearsalFault) (before now : Written) (status : ℕ) → HoldsWornBy result worn → IsToldBy result before now status → HoldsBy worn status
  holds-rehearsed (Ok summary) before now status none (inl told) = holds-none worn status none (lines-other _ _ _ _ _ _ status told (lit< tt))
  holds-rehearsed (Ok summary) before now status none (inr told) = holds-none worn status none (silent-other _ before now status told (lit< tt))
  holds-rehearsed (Err Worn) before now status held told = record { held = λ _. held; none = λ other. absurd (other told.0) }
  holds-rehearsed (Err Memory) before now status none told = holds-none worn status none (silent-other _ before now status told (lit< tt))

-- a service rehearses as it is asked to, where that is what it does
pub rehearses_service : {P N C S T : Type 0} (views : ServiceViews P N C) (service : Service) (before now : Outside P) (joined : Option (Group (PassSeat S Part ShelfCall ShelfReply) (PassSeat T Book BookCall BookReply))) (status params : ℕ) → service ≡ Rehearse params
    → IsRehearsedAs params (written_in before) (written_in now) status → now.node ≡ before.node → now.exchanges ≡ before.exchanges → joined ≡ None → RunsService views service before now joined status
rehearses_service views service before now joined status params is rehearsed node exchanges unjoined =
    subst (λ s. RunsService views s before now joined status) (sym is) (record { rehearsed = rehearsed; node = node; exchanges = exchanges }, unjoined)
