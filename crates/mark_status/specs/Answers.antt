-- Where an issuer is asked about its trust marks, and what it answers (OpenID Federation 1.0 section 8.4).
use Rattle.std.specs.Prelude.{◌≡◌, ◌≤◌, ◌+◌, ℕ, List, ◌++◌, codes, bytes_eq, nat_le, Bool, IsTrue, ◌&&◌, Option, Some, None, if◌then◌else◌}
use Rattle.std.specs.Option.{option_and_then, option_map_or}
use Rattle.fed_base.specs.Values.{◌>>=◌}
use Rattle.form_urlencoded.specs.Form.{byte_serialize}
use Rattle.jwk_set.specs.declared.jwk.Jwk.{Jwk}
use Rattle.sealed.specs.Deciding.{is_sealed_by}
use Rattle.sealed.specs.Tests.{tests_under}
use Rattle.entity_statement.specs.Claims.{Identifier}
use Rattle.entity_statement.specs.Signed.{statement_of}
use Rattle.entity_statement.specs.Use.{status_endpoint_in}
use Rattle.entity_statement.specs.declared.marks.MarkEntry.{MarkEntry}
use Rattle.trust_mark.specs.Marks.{mark_of}
use Rattle.trust_mark.specs.Signed.{status_answer_of}
use Rattle.trust_mark.specs.declared.status.MarkStatus.{MarkStatus}
use Rattle.trust_mark.specs.declared.status.StatusAnswer.{StatusAnswer}

-- ---- questions

-- the form that asks about a mark (section 8.4.1, `trust_mark`)
unfoldable pub form_of : List ℕ → List ℕ
form_of mark = codes "trust_mark=" ++ byte_serialize mark

-- a mark that is asked about: its text and its issuer, the endpoint and the keys of the issuer's configuration, and the moment
pub record Asking : Type 0 where
  pub mark : List ℕ
  pub issuer : Identifier
  pub endpoint : Option (List ℕ)
  pub keys : List Jwk
  pub moment : ℕ

-- an entry's mark with the configuration of its issuer, where the texts read as such (sections 3 and 7.1)
unfoldable pub asking_of : MarkEntry → List ℕ → ℕ → Option Asking
asking_of entry config t = do
  mark ← mark_of entry.text
  claims ← statement_of config
  Some (record { mark = entry.text; issuer = mark.iss; endpoint = status_endpoint_in claims.metadata; keys = claims.keys; moment = t })

-- ---- answers

-- the text is the issuer's answer on this mark, and of no later moment than a minute from now: it says this (section 8.4.2)
pub record IsAnswer (here : Asking) (text : List ℕ) (status : MarkStatus) : Type 0 where
  pub answer : StatusAnswer
  pub reads : status_answer_of text ≡ Some answer
  pub from_issuer : answer.iss ≡ here.issuer
  pub on_mark : answer.trust_mark ≡ here.mark
  pub issued : answer.iat ≤ here.moment + 60
  pub sealed : IsTrue (is_sealed_by text here.keys)
  pub says : answer.status ≡ status

-- the same of the claims alone, as a test
abbrev pub is_about : Asking → StatusAnswer → Bool
is_about here a = bytes_eq a.iss here.issuer && (bytes_eq a.trust_mark here.mark && nat_le a.iat (here.moment + 60))

-- what the text says of the mark, where it is such an answer
unfoldable pub told_by : Asking → List ℕ → Option MarkStatus
told_by here text =
    option_and_then (λ a. if is_about here a && is_sealed_by text here.keys then Some a.status else None) (status_answer_of text)

-- how many signatures that takes: one where the claims are such and the header names a key
unfoldable pub tests_of_text : Asking → List ℕ → ℕ
tests_of_text here text = option_map_or (λ a. if is_about here a then tests_under here.keys text else 0) (status_answer_of text) 0
