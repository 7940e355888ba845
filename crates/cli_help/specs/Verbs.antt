-- The words that name a command, and the page of each.
use Rattle.std.specs.Prelude.{ℕ, List, codes, bytes_eq, find, Bool, Option}
use Rattle.cli_help.specs.declared.answer_pages.TheConstants.{CHECK, CHECK_REPLY, HELP_PAGE, SHOW, VERIFY}
use Rattle.cli_help.specs.declared.key_pages.TheConstants.{ISSUE, KEYGEN, PUBLIC, ROTATE}
use Rattle.cli_help.specs.declared.node_pages.TheConstants.{AUTHORITY, CHECK_CONFIG, REGISTER, REHEARSE, RESOLVE, RESOLVER}
use Rattle.cli_help.specs.declared.verb.TheConstants.{VERBS}
use Rattle.cli_help.specs.declared.verb.Verb.{Verb}
use Rattle.cli_help.specs.declared.verb.Verb.TheVariants as verb

-- the word of each
abbrev pub word_of : Verb → List ℕ
word_of verb.Authority = codes "authority"
word_of verb.Check = codes "check"
word_of verb.CheckConfig = codes "check-config"
word_of verb.CheckReply = codes "check-reply"
word_of verb.Help = codes "help"
word_of verb.Issue = codes "issue"
word_of verb.Keygen = codes "keygen"
word_of verb.Public = codes "public"
word_of verb.Register = codes "register"
word_of verb.Rehearse = codes "rehearse"
word_of verb.Resolve = codes "resolve"
word_of verb.Resolver = codes "resolver"
word_of verb.Rotate = codes "rotate"
word_of verb.Show = codes "show"
word_of verb.Verify = codes "verify"

-- the word is its own
abbrev pub is_called : List ℕ → Verb → Bool
is_called word verb = bytes_eq (word_of verb) word

-- the first of all whose word it is
unfoldable pub verb_of : List ℕ → Option Verb
verb_of word = find (is_called word) VERBS

-- the page of each
abbrev pub page_of : Verb → List ℕ
page_of verb.Authority = AUTHORITY.now
page_of verb.Check = CHECK.now
page_of verb.CheckConfig = CHECK_CONFIG.now
page_of verb.CheckReply = CHECK_REPLY.now
page_of verb.Help = HELP_PAGE.now
page_of verb.Issue = ISSUE.now
page_of verb.Keygen = KEYGEN.now
page_of verb.Public = PUBLIC.now
page_of verb.Register = REGISTER.now
page_of verb.Rehearse = REHEARSE.now
page_of verb.Resolve = RESOLVE.now
page_of verb.Resolver = RESOLVER.now
page_of verb.Rotate = ROTATE.now
page_of verb.Show = SHOW.now
page_of verb.Verify = VERIFY.now
