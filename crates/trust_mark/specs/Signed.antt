-- What texts claim, with the parts that it is read from (OpenID Federation 1.0 sections 7 and 8.4, RFC 7515 section 7.1).
use Rattle.std.specs.Prelude.{◌≡◌, ℕ, List, Option, Some, None, option_and_then}
use Rattle.std.specs.Result.{result_ok}
use Rattle.jws_form.specs.Compact.{IsCompact}
use Rattle.jws_form.specs.Splitting.{splitting}
use Rattle.trust_mark.specs.Claims.{status_claims}
use Rattle.trust_mark.specs.declared.signed.Signed.{Signed}
use Rattle.trust_mark.specs.declared.status.StatusAnswer.{StatusAnswer}

-- the answer on a mark's status that a text reads as, where it reads as one (section 8.4.2)
unfoldable pub status_answer_of : List ℕ → Option StatusAnswer
status_answer_of text = option_and_then (λ compact. result_ok (status_claims compact)) (result_ok (splitting text))

-- the text reads as this, and these are its parts; or it reads as nothing
abbrev pub IsReading : {X : Type 0} → (List ℕ → Option X) → List ℕ → Option (Signed X) → Type 0
IsReading of text (Some s) = (of text ≡ Some s.claims) × (s.compact.whole ≡ text) × IsCompact s.compact.whole s.compact
IsReading of text None = of text ≡ None
