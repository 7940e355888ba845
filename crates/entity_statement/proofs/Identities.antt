-- Identifiers have no fault, and moments are below their bound.
use Rattle.std.proofs.Common.{◌≡◌, ◌<◌, ℕ, ℤ, pos, negsuc, List, Bool, true, false, cond, nat_lt, Option, Some, None, Result, Ok, Err, refl, ap, ◌∙◌, subst}
use Rattle.std.specs.Option.{option_and_then}
use Rattle.std.specs.Result.{result_ok}
use Rattle.std.proofs.lemmas.Bool.{lt-ltb}
use Rattle.fed_base.specs.Moments.{moment_limit}
use Rattle.fed_json.specs.declared.tree.Json.{Json, Int, Text}
use Rattle.fed_json.specs.Trees.{as_int, as_text, if_below}
use Rattle.fed_json.proofs.Accessors.{Int-as_int, Text-as_text, as_int-Int, as_text-Text}
use Rattle.entity_id.specs.declared.fault.IdFault.{IdFault}
use Rattle.entity_id.specs.Identifiers.{IsIdentifier, identifier_in, identifier_of}
use Rattle.entity_id.proofs.Identifying.{identifier_in-found, identifier_in-only}
use Rattle.chain_limits.proofs.Utf8.{and_then-some}
use Rattle.entity_statement.specs.Forms.{identifier, moment}

-- ---- the forms

is_read : (r : Result (List ℕ) IdFault) (id : List ℕ) → result_ok r ≡ Some id → r ≡ Ok id
is_read (Ok x) id e = let same : x ≡ id = cc e in ap Ok same
is_read (Err fault) id e = cc e

pub identifier-is : (tree : Json) (id : List ℕ) → identifier tree ≡ Some id → (tree ≡ Text id) × IsIdentifier id
unfolding identifier
identifier-is tree id e =
    let text = and_then-some identifier_of (as_text tree) id e in
    let is = identifier_in-found text.0 id (is_read (identifier_in text.0) id text.2) in
    (Text-as_text tree text.0 text.1 ∙ ap Text is.1, subst IsIdentifier is.1 is.0)

pub identifier-of : (id : List ℕ) → IsIdentifier id → identifier (Text id) ≡ Some id
unfolding identifier
identifier-of id is = ap (option_and_then identifier_of) (as_text-Text id) ∙ ap (λ r. result_ok r) (identifier_in-only id is)

in_bounds : (b : Bool) (m n : ℕ) → cond b (Some m) None ≡ Some n → (b ≡ true) × (m ≡ n)
in_bounds true m n e = (refl, cc e)
in_bounds false m n e = cc e

if_below-is : (o : Option ℤ) (n : ℕ) → if_below moment_limit o ≡ Some n → o ≡ Some (pos n)
if_below-is None n e = cc e
if_below-is (Some (negsuc m)) n e = cc e
if_below-is (Some (pos m)) n e = ap (λ k. Some (pos k)) (in_bounds (nat_lt m moment_limit) m n e).1

pub moment-is : (tree : Json) (n : ℕ) → moment tree ≡ Some n → tree ≡ Int (pos n)
unfolding moment
moment-is tree n e = Int-as_int tree (pos n) (if_below-is (as_int tree) n e)

pub moment-of : (n : ℕ) → n < moment_limit → moment (Int (pos n)) ≡ Some n
unfolding moment
moment-of n small = ap (if_below moment_limit) (as_int-Int (pos n)) ∙ ap (λ b. cond b (Some n) None) (lt-ltb n moment_limit small)
