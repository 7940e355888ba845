-- What the words behind a verb ask for over a network: to answer others, or to resolve an entity; or over one in memory.
use Rattle.std.specs.Prelude.{ℕ, List, ◌==◌, ◌&&◌, ◌||◌, length, codes, Bool, Option, Some, None, if◌then◌else◌}
use Rattle.std.specs.Option.{option_and_then}
use Rattle.entity_id.specs.Identifiers.{identifier_of}
use Rattle.cli_words.specs.Options.{count_in, option_in, says_yes}
use Rattle.cli_words.specs.declared.service.Service.{Service}
use Rattle.cli_words.specs.declared.service.Service.TheVariants.{Authority, Resolve, Resolver}

-- the service, where the file and both numbers are there
abbrev pub authority_with : Option (List ℕ) → Option ℕ → Option ℕ → Bool → Option Service
authority_with (Some config) (Some port) (Some connections) stream = Some (Authority config port connections stream)
authority_with (Some config) (Some port) None stream = None
authority_with (Some config) None connections stream = None
authority_with None port connections stream = None

-- a connection may ask more than once
abbrev pub streams : List (List ℕ) → Bool
streams words = says_yes (codes "--stream") words

-- three options with their values: a file, a port (RFC 9293 section 3.1), and how many connections are served; or these three and that a
-- connection may ask more than once
unfoldable pub authority_of : List (List ℕ) → Option Service
authority_of words =
    if length words == 6 || (length words == 8 && streams words)
    then authority_with (option_in (codes "--config") words) (count_in (codes "--port") 65535 words) (count_in (codes "--connections") 1000000 words) (streams words)
    else None

-- the same for a node that resolves
abbrev pub resolver_with : Option (List ℕ) → Option ℕ → Option ℕ → Option Service
resolver_with (Some config) (Some port) (Some connections) = Some (Resolver config port connections)
resolver_with (Some config) (Some port) None = None
resolver_with (Some config) None connections = None
resolver_with None port connections = None

unfoldable pub resolver_of : List (List ℕ) → Option Service
resolver_of words =
    if length words == 6
    then resolver_with (option_in (codes "--config") words) (count_in (codes "--port") 65535 words) (count_in (codes "--connections") 1000000 words)
    else None

-- the entity identifier that the option's value is (OpenID Federation 1.0 section 1.2)
abbrev pub identifier_in : List ℕ → List (List ℕ) → Option (List ℕ)
identifier_in name words = option_and_then identifier_of (option_in name words)

-- the call, where the file and both entities are there
abbrev pub resolve_with : Option (List ℕ) → Option (List ℕ) → Option (List ℕ) → Bool → Option Service
resolve_with (Some config) (Some sub) (Some anchor) heed = Some (Resolve config sub anchor heed)
resolve_with (Some config) (Some sub) None heed = None
resolve_with (Some config) None anchor heed = None
resolve_with None sub anchor heed = None

-- the issuers of the reply's marks are asked about them
abbrev pub heeds : List (List ℕ) → Bool
heeds words = says_yes (codes "--heed") words

-- three options with their values: a file, the entity that is asked for, and a trust anchor; or these three and that the issuers of the
-- reply's marks are asked about them (OpenID Federation 1.0 section 8.4)
unfoldable pub resolve_of : List (List ℕ) → Option Service
resolve_of words =
    if length words == 6 || (length words == 8 && heeds words)
    then resolve_with (option_in (codes "--config") words) (identifier_in (codes "--sub") words) (identifier_in (codes "--anchor") words) (heeds words)
    else None
