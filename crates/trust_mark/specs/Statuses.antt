-- What has become of a trust mark, and the tree of an answer on it (OpenID Federation 1.0 section 8.4.2).
use Rattle.std.specs.Prelude.{ℕ, pos, List, [], ◌∷◌, codes, bytes_eq, Option, Some, None, if◌then◌else◌}
use Rattle.fed_json.specs.declared.tree.Json.{Json, Int, Object}
use Rattle.fed_json.specs.declared.tree.Member.{Member}
use Rattle.fed_json.specs.Members.{number_member, text_member}
use Rattle.fed_json.specs.Reading.{member_of}
use Rattle.trust_mark.specs.declared.status.MarkStatus.{MarkStatus}
use Rattle.trust_mark.specs.declared.status.MarkStatus.TheVariants.{Active, Expired, Revoked, Invalid}
use Rattle.trust_mark.specs.declared.status.StatusAnswer.{StatusAnswer}

-- the word of a status
abbrev pub status_word : MarkStatus → List ℕ
status_word Active = codes "active"
status_word Expired = codes "expired"
status_word Revoked = codes "revoked"
status_word Invalid = codes "invalid"

-- the status that the word means, where it means one
abbrev pub status_of_word : List ℕ → Option MarkStatus
status_of_word word =
    if bytes_eq word (status_word Active) then Some Active
    else if bytes_eq word (status_word Expired) then Some Expired
    else if bytes_eq word (status_word Revoked) then Some Revoked
    else if bytes_eq word (status_word Invalid) then Some Invalid
    else None

-- an answer that claims this (section 8.4.2)
abbrev pub answer_of : List ℕ → ℕ → List ℕ → MarkStatus → StatusAnswer
answer_of iss iat trust_mark status = record { iss = iss; iat = iat; trust_mark = trust_mark; status = status }

-- the claims of an answer, with its members in byte order
unfoldable pub status_tree : StatusAnswer → Json
status_tree a = Object
    (number_member (codes "iat") a.iat ∷ text_member (codes "iss") a.iss
    ∷ text_member (codes "status") (status_word a.status) ∷ text_member (codes "trust_mark") a.trust_mark ∷ [])
