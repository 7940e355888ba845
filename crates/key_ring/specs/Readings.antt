-- What is found in the tree of a ring's file, whatever else stands there. That nothing else does is asked of the tree of what was found.
use Rattle.std.specs.Prelude.{ℕ, List, codes, bytes_eq, nat_eq, nat_lt, Option, Some, None, if◌then◌else◌}
use Rattle.std.specs.Option.{option_and_then, option_or}
use Rattle.std.specs.Result.{result_ok}
use Rattle.hex.specs.Hex.{decode_sized}
use Rattle.fed_base.specs.declared.algorithm.Alg.{Alg}
use Rattle.fed_base.specs.declared.algorithm.Alg.TheVariants.{Small}
use Rattle.fed_base.specs.Moments.{moment_limit}
use Rattle.fed_base.specs.Values.{◌>>=◌}
use Rattle.fed_json.specs.declared.tree.Json.{Json}
use Rattle.fed_json.specs.declared.tree.Member.{Member}
use Rattle.fed_json.specs.Trees.{as_list, as_object, as_text, count_below, each, find, text_at}
use Rattle.jws_form.specs.Header.{algorithm_of}
use Rattle.key_ring.specs.declared.key.KeyState.{KeyState}
use Rattle.key_ring.specs.declared.key.KeyState.TheVariants.{Live, Retired, Revoked}
use Rattle.key_ring.specs.declared.key.RevokeReason.{RevokeReason}
use Rattle.key_ring.specs.declared.key.RevokeReason.TheVariants.{Unspecified, Compromised, Superseded}
use Rattle.key_ring.specs.declared.key.RingKey.{RingKey}
use Rattle.key_ring.specs.declared.version.Version.{Version}
use Rattle.key_ring.specs.declared.version.Version.TheVariants.{First, Second}
use Rattle.key_ring.specs.Rings.{Ring}

-- the version of a number
abbrev pub version_of : ℕ → Option Version
version_of number =
    if nat_eq number 1 then Some First
    else if nat_eq number 2 then Some Second
    else None

-- the version that an object says
unfoldable pub version_in : Json → Option Version
version_in tree = option_and_then version_of (option_and_then (count_below 3) (option_and_then (find (codes "version")) (as_object tree)))

-- a moment under that name
abbrev pub moment_at : List ℕ → List Member → Option ℕ
moment_at name members = option_and_then (count_below moment_limit) (find name members)

-- the algorithm: that of the first parameter set in version 1, which names none, and the one that is named in version 2
unfoldable pub alg_at : Version → List Member → Option Alg
alg_at First members = Some Small
alg_at Second members = option_and_then algorithm_of (text_at (codes "alg") members)

-- the seeds: 48 bytes in hexadecimal digits, here of either case
abbrev pub seeds_at : List Member → Option (List ℕ)
seeds_at members = option_and_then (λ text. result_ok (decode_sized text 48)) (text_at (codes "seeds") members)

-- the reason that a word says
abbrev pub reason_in : List ℕ → Option RevokeReason
reason_in word =
    if bytes_eq word (codes "unspecified") then Some Unspecified
    else if bytes_eq word (codes "compromised") then Some Compromised
    else if bytes_eq word (codes "superseded") then Some Superseded
    else None

-- the state that a word says
abbrev pub state_word : List ℕ → Option KeyState
state_word word =
    if bytes_eq word (codes "live") then Some Live
    else if bytes_eq word (codes "retired") then Some Retired
    else None

-- the revocation that the members say
abbrev pub revocation_in : List Member → Option KeyState
revocation_in members = do
  at ← moment_at (codes "revoked_at") members
  word ← text_at (codes "reason") members
  reason ← reason_in word
  Some (Revoked at reason)

-- the state that a tree says: a word or a revocation
unfoldable pub state_in : Json → Option KeyState
state_in tree = option_or (option_and_then state_word (as_text tree)) (option_and_then revocation_in (as_object tree))

abbrev pub state_at : List Member → Option KeyState
state_at members = option_and_then state_in (find (codes "state") members)

-- the key, where it ends after it begins
abbrev pub if_ordered : RingKey → Option RingKey
if_ordered key = if nat_lt key.iat key.exp then Some key else None

-- the key that the members say
unfoldable pub key_of : Version → List Member → Option RingKey
key_of version members = do
  alg ← alg_at version members
  seeds ← seeds_at members
  state ← state_at members
  iat ← moment_at (codes "iat") members
  exp ← moment_at (codes "exp") members
  if_ordered (record { alg = alg; seeds = seeds; iat = iat; exp = exp; state = state })

-- the key that an item says
unfoldable pub key_in : Version → Json → Option RingKey
key_in version tree = option_and_then (key_of version) (as_object tree)

-- the list `keys` of an object
unfoldable pub listed_in : Json → Option (List Json)
listed_in tree = option_and_then as_list (option_and_then (find (codes "keys")) (as_object tree))

-- the keys that a tree says
unfoldable pub keys_in : Version → Json → Option Ring
keys_in version tree = option_and_then (each (key_in version)) (listed_in tree)
