-- What `check` answers on a file of keys and a list of texts (OpenID Federation 1.0 section 4).
use Rattle.std.specs.Prelude.{◌≡◌, ℕ, List, [], ◌∷◌, ◌++◌, codes, decimal, Option, Some, None}
use Rattle.std.specs.Option.{option_and_then}
use Rattle.std.specs.Result.{result_ok}
use Rattle.chain_check.specs.Validity.{case_of}
use Rattle.chain_check.specs.Verdicts.{IsVerdictOn}
use Rattle.chain_check.specs.declared.reason.Reason.{Reason}
use Rattle.chain_check.specs.declared.reason.Reason.TheVariants.{Form, Names, Times, Signature, PathLength, Name, Conflict, Policy}
use Rattle.chain_check.specs.declared.verdict.Verdict.{Verdict}
use Rattle.chain_check.specs.declared.verdict.Verdict.TheVariants.{Valid, Refused}
use Rattle.fed_json.specs.Compact.{compact, quoted}
use Rattle.fed_json.specs.Reading.{tree_in}
use Rattle.fed_json.specs.Trees.{texts_of}
use Rattle.jwk_set.specs.KeySets.{key_set_in}
use Rattle.jwk_set.specs.declared.jwk.Jwk.{Jwk}
use Rattle.policy_merge.specs.Names.{operator_name}

-- the keys of a file that is a key set in JSON (RFC 7517 section 5)
abbrev pub keys_in : List ℕ → Option (List Jwk)
keys_in file = option_and_then (λ tree. result_ok (key_set_in tree)) (tree_in file)

-- the texts of an input that is a list of texts in JSON (RFC 8259 section 5)
abbrev pub chain_in : List ℕ → Option (List (List ℕ))
chain_in input = option_and_then texts_of (tree_in input)

-- a reason: its name, and where policies are the reason the entity type and the parameter as JSON strings and the operators by name
abbrev pub reason_text : Reason → List ℕ
reason_text Form = codes "Form"
reason_text Names = codes "Names"
reason_text Times = codes "Times"
reason_text Signature = codes "Signature"
reason_text PathLength = codes "PathLength"
reason_text Name = codes "Name"
reason_text (Conflict entity_type parameter first second) =
    codes "Conflict " ++ (quoted entity_type ++ (32 ∷ (quoted parameter ++ (32 ∷ (operator_name first ++ (32 ∷ operator_name second))))))
reason_text (Policy entity_type parameter operator) =
    codes "Policy " ++ (quoted entity_type ++ (32 ∷ (quoted parameter ++ (32 ∷ operator_name operator))))

-- the lines that are written, each with its line end: of a valid chain the leaf and the moment at which it ends (seconds since 1970),
-- then the metadata in compact form; of any other the place of the first failure, counted from the leaf's 0, and its reason
abbrev pub lines_of : Verdict → List ℕ
lines_of (Valid resolved) =
    codes "valid " ++ (resolved.leaf ++ (32 ∷ (decimal resolved.exp ++ (10 ∷ (compact resolved.metadata ++ 10 ∷ [])))))
lines_of (Refused place reason) = codes "refused " ++ (decimal place ++ (32 ∷ (reason_text reason ++ 10 ∷ [])))

-- 0 for a valid chain, 1 for a refused one
abbrev pub status_of : Verdict → ℕ
status_of (Valid resolved) = 0
status_of (Refused place reason) = 1

-- the status and the lines tell the chain's verdict for the anchor, its keys and the moment; without keys or without a chain they tell
-- that the input isn't of its form
abbrev pub IsChecked : List ℕ → ℕ → Option (List Jwk) → Option (List (List ℕ)) → ℕ → List ℕ → Type 0
IsChecked anchor t (Some keys) (Some chain) status text =
    (verdict : Verdict) × IsVerdictOn (case_of chain anchor keys t) verdict × (status ≡ status_of verdict) × (text ≡ lines_of verdict)
IsChecked anchor t (Some keys) None status text = (status ≡ 2) × (text ≡ codes "input" ++ 10 ∷ [])
IsChecked anchor t None chain status text = (status ≡ 2) × (text ≡ codes "input" ++ 10 ∷ [])
