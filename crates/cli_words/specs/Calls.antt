-- What the words of a command line ask for.
use Rattle.std.specs.Prelude.{ℕ, List, [], ◌∷◌, Option, Some, None, option_map}
use Rattle.cli_help.specs.Verbs.{verb_of}
use Rattle.cli_help.specs.declared.verb.Verb.{Verb}
use Rattle.cli_help.specs.declared.verb.Verb.TheVariants as verb
use Rattle.cli_words.specs.Commands.{check_of, flag_of, issue_of, keygen_of, rotate_of, verify_of}
use Rattle.cli_words.specs.Inspections.{config_of, help_of, public_of, reply_check_of, show_of}
use Rattle.cli_words.specs.Registrations.{registration_in}
use Rattle.cli_words.specs.Rehearsals.{rehearsal_of}
use Rattle.cli_words.specs.Services.{authority_of, resolve_of, resolver_of}
use Rattle.cli_words.specs.declared.call.Call.{Call}
use Rattle.cli_words.specs.declared.call.Call.TheVariants as call
use Rattle.cli_words.specs.declared.command.Command.{Command}
use Rattle.cli_words.specs.declared.command.Command.TheVariants.{Faulty}
use Rattle.cli_words.specs.declared.inspection.Inspection.{Inspection}
use Rattle.cli_words.specs.declared.registration.Registration.{Registration}
use Rattle.cli_words.specs.declared.service.Service.{Service}
use Rattle.cli_words.specs.declared.service.Service.TheVariants.{Rehearse}

-- ---- what they ask for

-- what is to be shown, or words that aren't of its form
abbrev pub shown : Option Inspection → Call
shown (Some inspection) = call.Inspection inspection
shown None = call.Command Faulty

-- what is to be done over a network, or words that aren't of its form
abbrev pub served : Option Service → Call
served (Some service) = call.Service service
served None = call.Command Faulty

-- what is to be registered, or words that aren't of its form
abbrev pub registered : Option Registration → Call
registered (Some registration) = call.Registration registration
registered None = call.Command Faulty

-- the words behind a verb
unfoldable pub call_by : Verb → List (List ℕ) → Call
call_by verb.Verify words = call.Command (verify_of words)
call_by verb.Keygen words = call.Command (keygen_of words)
call_by verb.Issue words = call.Command (issue_of words)
call_by verb.Rotate words = call.Command (rotate_of words)
call_by verb.Check words = call.Command (check_of words)
call_by verb.Public words = shown (public_of words)
call_by verb.Show words = shown (show_of words)
call_by verb.CheckConfig words = shown (config_of words)
call_by verb.CheckReply words = shown (reply_check_of words)
call_by verb.Help words = shown (help_of words)
call_by verb.Authority words = served (authority_of words)
call_by verb.Resolver words = served (resolver_of words)
call_by verb.Resolve words = served (resolve_of words)
call_by verb.Rehearse words = served (option_map Rehearse (rehearsal_of words))
call_by verb.Register words = registered (registration_in words)

-- the words behind the first one, which is a verb, or else a flag
abbrev pub call_at : Option Verb → List ℕ → List (List ℕ) → Call
call_at (Some verb) word words = call_by verb words
call_at None word words = call.Command (flag_of word words)

-- the words after the program's name
unfoldable pub call_of : List (List ℕ) → Call
call_of [] = call.Command Faulty
call_of (word ∷ words) = call_at (verb_of word) word words

-- ---- the four kinds of it

-- the command; where they ask for something else, that of no words
abbrev pub command_in : Call → Command
command_in (call.Command command) = command
command_in call = Faulty

abbrev pub command_of : List (List ℕ) → Command
command_of words = command_in (call_of words)

-- what is to be shown
abbrev pub inspection_in : Call → Option Inspection
inspection_in (call.Inspection inspection) = Some inspection
inspection_in call = None

abbrev pub inspection_of : List (List ℕ) → Option Inspection
inspection_of words = inspection_in (call_of words)

-- what is to be done over a network, or over one in memory
abbrev pub service_in : Call → Option Service
service_in (call.Service service) = Some service
service_in call = None

abbrev pub service_of : List (List ℕ) → Option Service
service_of words = service_in (call_of words)

-- whom the input is to register, and up to which trust anchor
abbrev pub registration_at : Call → Option Registration
registration_at (call.Registration registration) = Some registration
registration_at call = None

abbrev pub registration_of : List (List ℕ) → Option Registration
registration_of words = registration_at (call_of words)
