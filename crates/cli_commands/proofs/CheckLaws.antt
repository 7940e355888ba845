-- What `check` answers is one status and one text.
use Rattle.std.proofs.Common.{◌≡◌, ◌≤◌, ℕ, List, Some, sym, ap, ◌∙◌, arith}
use Rattle.std.specs.Prelude.{Option, None}
use Rattle.chain_check.proofs.Verdicts.{one_verdict}
use Rattle.chain_check.specs.Validity.{case_of}
use Rattle.chain_check.specs.declared.verdict.Verdict.{Verdict}
use Rattle.chain_check.specs.declared.verdict.Verdict.TheVariants.{Valid, Refused}
use Rattle.cli_commands.specs.Checks.{IsChecked, lines_of, status_of}
use Rattle.jwk_set.specs.declared.jwk.Jwk.{Jwk}

-- the keys, the chain and the moment fix what is answered
pub checked_once : (anchor : List ℕ) (t : ℕ) (keys : Option (List Jwk)) (chain : Option (List (List ℕ))) (status other : ℕ) (text line : List ℕ)
    → IsChecked anchor t keys chain status text → IsChecked anchor t keys chain other line → (status ≡ other) × (text ≡ line)
checked_once anchor t (Some keys) (Some chain) status other text line (v, is, s, l) (w, also, r, k) =
    let same : v ≡ w = one_verdict (case_of chain anchor keys t) v w is also in
    (s ∙ (ap status_of same ∙ sym r), l ∙ (ap lines_of same ∙ sym k))
checked_once anchor t (Some keys) None status other text line (s, l) (r, k) = (s ∙ sym r, l ∙ sym k)
checked_once anchor t None chain status other text line (s, l) (r, k) = (s ∙ sym r, l ∙ sym k)

verdict_small : (v : Verdict) → status_of v ≤ 1
verdict_small (Valid resolved) = omega arith
verdict_small (Refused place reason) = omega arith

-- the status is 0, 1 or 2
pub checked_small : (anchor : List ℕ) (t : ℕ) (keys : Option (List Jwk)) (chain : Option (List (List ℕ))) (status : ℕ) (text : List ℕ)
    → IsChecked anchor t keys chain status text → status ≤ 2
checked_small anchor t (Some keys) (Some chain) status text (v, is, s, l) = omega (arith, s, verdict_small v)
checked_small anchor t (Some keys) None status text (s, l) = omega (arith, s)
checked_small anchor t None chain status text (s, l) = omega (arith, s)
