use Rattle.std.proofs.Common.{rules, ◌≡◌, ◌∙◌, Some, ap, refl, sym, arith, lit<}
use Rattle.cli_words.specs.Calls.{call_of, command_of, inspection_of, registration_at, registration_of, service_in, service_of}
use Rattle.cli_words.specs.declared.call.Call.TheVariants as call
use Rattle.fed.proofs.CommandLaws.{does-done, does-nothing, does-shown}
use Rattle.fed.proofs.RegisterLaws.{unread_registration}
use Rattle.fed.proofs.ResolveLaws.{holds-none, small-other, unread_words}
use Rattle.fed.proofs.performing.perform.Goals as goal

pub returns-in-Ok-Command-clause-command : goal.returns-in-Ok-Command-clause-command
returns-in-Ok-Command-clause-command g c = λ none also.
    let asked : call_of c.args.words.now ≡ call.Command c.in-Ok-Command.command = search rules in
    (refl, c.requires.joined, does-done (call_of c.args.words.now) _ _ _ c.in-Ok-Command.command asked c.perform_command-status.ensures)

pub returns-in-Ok-Command-clause-worn : goal.returns-in-Ok-Command-clause-worn
returns-in-Ok-Command-clause-worn g c = holds-none _ _ c.requires.worn (small-other _ 6 c.perform_command-status.ensures.range (lit< tt))

pub returns-in-Ok-Inspection-clause-command : goal.returns-in-Ok-Inspection-clause-command
returns-in-Ok-Inspection-clause-command g c = λ none also.
    let asked : call_of c.args.words.now ≡ call.Inspection c.in-Ok-Inspection.inspection = search rules in
    (refl, c.requires.joined, does-shown (call_of c.args.words.now) _ _ _ c.in-Ok-Inspection.inspection asked c.inspect-status.ensures)

pub returns-in-Ok-Inspection-clause-worn : goal.returns-in-Ok-Inspection-clause-worn
returns-in-Ok-Inspection-clause-worn g c = holds-none _ _ c.requires.worn (small-other _ 6 c.inspect-status.ensures.range (lit< tt))

pub returns-in-Ok-Service-clause-service : goal.returns-in-Ok-Service-clause-service
returns-in-Ok-Service-clause-service g c =
    let read : call_of c.args.words.now ≡ call.Service c.in-Ok-Service.service = search rules in
    let asked : service_of c.args.words.now ≡ Some c.in-Ok-Service.service = ap service_in read in
    rw asked (c.serve_as.ensures.input, c.serve_as.ensures.runs)

pub returns-in-Ok-Registration-clause-command : goal.returns-in-Ok-Registration-clause-command
returns-in-Ok-Registration-clause-command g c = λ none also.
    let read : call_of c.args.words.now ≡ call.Registration c.in-Ok-Registration.registration = search rules in
    let asked : registration_of c.args.words.now ≡ Some c.in-Ok-Registration.registration = ap registration_at read in
    absurd (cc (sym also ∙ asked))

pub returns-in-Ok-Registration-clause-registration : goal.returns-in-Ok-Registration-clause-registration
returns-in-Ok-Registration-clause-registration g c =
    let read : call_of c.args.words.now ≡ call.Registration c.in-Ok-Registration.registration = search rules in
    let asked : registration_of c.args.words.now ≡ Some c.in-Ok-Registration.registration = ap registration_at read in
    rw asked (c.requires.joined, c.register-status.ensures.runs)

pub returns-in-Err-clause-registration : goal.returns-in-Err-clause-registration
returns-in-Err-clause-registration g c = unread_registration _ c.requires.joined (registration_of c.args.words.now) _

pub returns-in-Err-clause-command : goal.returns-in-Err-clause-command
returns-in-Err-clause-command g c = λ none also.
    (refl, c.requires.joined, does-nothing (inspection_of c.args.words.now) (command_of c.args.words.now) _)

pub returns-in-Err-clause-service : goal.returns-in-Err-clause-service
returns-in-Err-clause-service g c = unread_words _ _ c.requires.joined (service_of c.args.words.now) c.args.ports.input.now _

pub returns-in-Err-clause-worn : goal.returns-in-Err-clause-worn
returns-in-Err-clause-worn g c = holds-none _ _ c.requires.worn (λ eight. absurd (omega (arith, eight)))
