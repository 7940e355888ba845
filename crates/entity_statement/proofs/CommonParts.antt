-- The common claims by parts: who says it of whom, and when it holds.
use Rattle.std.proofs.Common.{◌≡◌, ℕ, List, codes, Result, Ok, Err, refl}
use Rattle.fed_base.specs.Answers.{◌>>=◌}
use Rattle.fed_json.specs.declared.tree.Member.{Member}
use Rattle.jwk_set.specs.declared.jwk.Jwk.{Jwk}
use Rattle.entity_statement.specs.declared.fault.StatementFault.{StatementFault}
use Rattle.entity_statement.specs.declared.parts.Parties.{Parties}
use Rattle.entity_statement.specs.Claims.{CommonClaims, Identifier, ValidityClaims}
use Rattle.entity_statement.specs.Forms.{identifier, moment}
use Rattle.entity_statement.specs.Table.{common_in, critical, formed, key_set, optional, parties_in, required, validity_in}

-- the claims of both parts
abbrev of_parts : Parties → ValidityClaims → CommonClaims
of_parts parties validity = record { iss = parties.iss; sub = parties.sub; iat = validity.iat; exp = validity.exp; keys = validity.keys }

abbrev in_turn : Result (Unit {0}) StatementFault → Result Identifier StatementFault → Result Identifier StatementFault → Result ℕ StatementFault → Result ℕ StatementFault
    → Result (List Jwk) StatementFault → Result CommonClaims StatementFault
in_turn understood iss sub iat exp keys = do
  u ← understood
  i ← iss
  s ← sub
  a ← iat
  e ← exp
  k ← keys
  Ok (record { iss = i; sub = s; iat = a; exp = e; keys = k })

abbrev parties : Result Identifier StatementFault → Result Identifier StatementFault → Result Parties StatementFault
parties iss sub = do
  i ← iss
  s ← sub
  Ok (record { iss = i; sub = s })

abbrev validity : Result ℕ StatementFault → Result ℕ StatementFault → Result (List Jwk) StatementFault → Result ValidityClaims StatementFault
validity iat exp keys = do
  a ← iat
  e ← exp
  k ← keys
  Ok (record { iat = a; exp = e; keys = k })

abbrev by_parts : Result (Unit {0}) StatementFault → Result Parties StatementFault → Result ValidityClaims StatementFault → Result CommonClaims StatementFault
by_parts understood parts times = do
  u ← understood
  p ← parts
  v ← times
  Ok (of_parts p v)

same : (understood : Result (Unit {0}) StatementFault) (iss sub : Result Identifier StatementFault) (iat exp : Result ℕ StatementFault) (keys : Result (List Jwk) StatementFault)
    → in_turn understood iss sub iat exp keys ≡ by_parts understood (parties iss sub) (validity iat exp keys)
same (Err fault) iss sub iat exp keys = refl
same (Ok u) (Err fault) sub iat exp keys = refl
same (Ok u) (Ok i) (Err fault) iat exp keys = refl
same (Ok u) (Ok i) (Ok s) (Err fault) exp keys = refl
same (Ok u) (Ok i) (Ok s) (Ok a) (Err fault) keys = refl
same (Ok u) (Ok i) (Ok s) (Ok a) (Ok e) (Err fault) = refl
same (Ok u) (Ok i) (Ok s) (Ok a) (Ok e) (Ok k) = refl

pub common_by_parts : (members : List Member) → common_in members ≡ by_parts (optional tt (codes "crit") critical members) (parties_in members) (validity_in members)
unfolding common_in parties_in validity_in
common_by_parts members =
    same (optional tt (codes "crit") critical members) (required (codes "iss") (formed identifier) members) (required (codes "sub") (formed identifier) members)
    (required (codes "iat") (formed moment) members) (required (codes "exp") (formed moment) members) (required (codes "jwks") key_set members)
