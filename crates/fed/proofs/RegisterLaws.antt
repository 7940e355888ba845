-- What is told of a registration, and the pass that is held then.
use Rattle.std.proofs.Common.{◌≡◌, ◌≢◌, ◌⊎◌, ◌<◌, ℕ, Option, Some, None, Result, Ok, Err, IfSome, refl, inl, inr, arith, lit<}
use Rattle.turn_log.specs.declared.pass.PassSeat.{PassSeat}
use Rattle.turn_log.specs.declared.group.Group.{Group}
use Rattle.statement_shelf.specs.Book.{Book}
use Rattle.statement_shelf.specs.Entries.{Part}
use Rattle.statement_shelf.specs.declared.calls.ShelfCall.{ShelfCall}
use Rattle.statement_shelf.specs.declared.calls.ShelfReply.{ShelfReply}
use Rattle.statement_shelf.specs.declared.calls.BookCall.{BookCall}
use Rattle.statement_shelf.specs.declared.calls.BookReply.{BookReply}
use Rattle.client_register.specs.declared.fault.RegisterFault.TheVariants.{Form, Chain, NoType, NoChain, Spent, Fault, Memory}
use Rattle.client_register.specs.declared.fault.RegisterFault.{RegisterFault}
use Rattle.client_register.specs.declared.registered.Registered.{Registered}
use Rattle.cli_words.specs.declared.registration.Registration.{Registration}
use Rattle.register_once.specs.declared.stop.RegisterStop.{RegisterStop}
use Rattle.register_once.specs.declared.stop.RegisterStop.TheVariants as stop
use Rattle.register_once.specs.Registering.{Wanted}
use Rattle.fed.specs.Orders.{wanted_of}
use Rattle.fed.specs.Registering.{IsAnswerTold, IsTextTold, IsTold, RunsRegistration, WithInput}
use Rattle.fed.specs.Resolving.{HoldsBy, Written}
use Rattle.fed.proofs.ResolveLaws.{holds-none, lines-other, silent-other}

-- ---- statuses other than 8

text-other : (status : ℕ) (line : _) (before now : Written) (result : ℕ) → IsTextTold status line before now result → status < 8 → result ≢ 8
text-other status line before now result (inl told) small = lines-other status line _ _ _ _ result told small
text-other status line before now result (inr told) small = silent-other 5 before now result told (lit< tt)

nine-other : (status : ℕ) → status ≡ 9 → status ≢ 8
nine-other status is eight = absurd (omega (arith, is, eight))

answer-other : (answer : Result Registered RegisterFault) (before now : Written) (status : ℕ) → IsAnswerTold answer before now status → status ≢ 8
answer-other (Ok registered) before now status told = text-other 0 _ before now status told (lit< tt)
answer-other (Err Form) before now status told = lines-other 1 _ _ _ _ _ status told (lit< tt)
answer-other (Err (Chain place reason)) before now status told = text-other 1 _ before now status told (lit< tt)
answer-other (Err NoType) before now status told = lines-other 1 _ _ _ _ _ status told (lit< tt)
answer-other (Err NoChain) before now status told = lines-other 1 _ _ _ _ _ status told (lit< tt)
answer-other (Err Spent) before now status told = nine-other status told.0
answer-other (Err Fault) before now status told = silent-other 7 before now status told (lit< tt)
answer-other (Err Memory) before now status told = silent-other 5 before now status told (lit< tt)

stop-other : (s : RegisterStop) (before now : Written) (status : ℕ) → IsTold (Err s) before now status → status ≢ 8
stop-other stop.Input before now status told = lines-other 2 _ _ _ _ _ status told (lit< tt)
stop-other stop.NoAnchor before now status told = lines-other 1 _ _ _ _ _ status told (lit< tt)
stop-other stop.Source before now status told = silent-other 3 before now status told (lit< tt)
stop-other stop.Store before now status told = silent-other 6 before now status told (lit< tt)
stop-other stop.Memory before now status told = silent-other 5 before now status told (lit< tt)

-- ---- the pass

module _ {S T : Type 0} (worn : Option (Group (PassSeat S Part ShelfCall ShelfReply) (PassSeat T Book BookCall BookReply))) (none : worn ≡ None) where
  pub holds-answered : (answer : Result Registered RegisterFault) (before now : Written) (status : ℕ) → IsAnswerTold answer before now status → HoldsBy worn status
  holds-answered answer before now status told = holds-none worn status none (answer-other answer before now status told)

  pub holds-stopped : (s : RegisterStop) (before now : Written) (status : ℕ) → IsTold (Err s) before now status → HoldsBy worn status
  holds-stopped s before now status told = holds-none worn status none (stop-other s before now status told)

-- ---- memory was wanting for the words

unregistered : {P : Type 0} (w : Wanted) (o : WithInput P) → RunsRegistration w o o 5
unregistered w o = record {
  result = Err stop.Memory;
  registers = record { ends = record { cause = tt; unasked = refl }; files = refl; source = refl; store = refl };
  told = (refl, refl);
  still = refl;
}

-- nothing was done, whatever was asked for
pub unread_registration : {P W : Type 0} (joined : Option W) → joined ≡ None → (asked : Option Registration) (o : WithInput P)
    → IfSome asked (λ registration. (joined ≡ None) × RunsRegistration (wanted_of registration) o o 5)
unread_registration joined none None o = tt
unread_registration joined none (Some registration) o = (none, unregistered (wanted_of registration) o)
