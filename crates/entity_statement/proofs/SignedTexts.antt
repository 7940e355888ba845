-- What the reading of a text says of its parts.
use Rattle.std.proofs.Common.{◌≡◌, ℕ, List, Some, None, Ok, Err, sym, ap, ◌∙◌}
use Rattle.std.specs.Prelude.{Result, option_and_then}
use Rattle.std.specs.Result.{result_ok}
use Rattle.jws_form.specs.declared.compact.Compact.{Compact}
use Rattle.jws_form.specs.Compact.{IsCompact}
use Rattle.jws_form.proofs.Laws.{only}
use Rattle.entity_statement.specs.declared.fault.StatementFault.{StatementFault}
use Rattle.entity_statement.specs.Claims.{Claims}
use Rattle.entity_statement.specs.Table.{claims_of}
use Rattle.entity_statement.specs.Signed.{statement_of}

-- a text reads as what its parts claim
pub statement_of-claims_of : (text : List ℕ) (c : Compact) → IsCompact text c → statement_of text ≡ result_ok (claims_of c)
unfolding statement_of
statement_of-claims_of text c is = ap (λ r. option_and_then (λ compact. result_ok (claims_of compact)) (result_ok r)) (only text c is)

is_claims : (r : Result Claims StatementFault) (claims : Claims) → result_ok r ≡ Some claims → r ≡ Ok claims
is_claims (Ok x) claims is = let same : x ≡ claims = cc is in ap Ok same
is_claims (Err fault) claims is = cc is

-- the parts of a text that reads as a statement claim this
pub claims_of-read : (text : List ℕ) (c : Compact) (claims : Claims) → IsCompact text c → statement_of text ≡ Some claims → claims_of c ≡ Ok claims
claims_of-read text c claims is read = is_claims (claims_of c) claims (sym (statement_of-claims_of text c is) ∙ read)

-- the parts of a text that reads as no statement claim nothing
pub claims_of-unread : (text : List ℕ) (c : Compact) (claims : Claims) → IsCompact text c → statement_of text ≡ None → ¬ (claims_of c ≡ Ok claims)
claims_of-unread text c claims is unread claimed =
    let bad : result_ok (claims_of c) ≡ None = sym (statement_of-claims_of text c is) ∙ unread in
    cc (bad, claimed)
