-- The statements of a valid chain's texts: there is one for each, all end after the moment, and the texts can stand in claims.
use Rattle.std.proofs.Common.{◌≡◌, ◌<◌, ◌+◌, ℕ, zero, suc, List, [], ◌∷◌, ◌++◌, length, min, fold, Bool, true, Option, Some, None, refl, sym, ap, ◌∙◌, subst, true≢false, arith}
use Rattle.std.specs.Prelude.{IsSome, nat_le, slice_get, slice_index_or}
use Rattle.std.proofs.lemmas.Bool.{ltb-true}
use Rattle.std.proofs.lemmas.Option.{slice_get_within}
use Rattle.std.specs.List.{cons_option, filter_map, list_all}
use Rattle.std.specs.Str.{IsAscii, IsUtf8, is_utf8}
use Rattle.std.proofs.lemmas.Str.{IsUtf8-append, IsUtf8-from_ascii, IsUtf8-from_is_utf8, is_utf8-from_IsUtf8}
use Rattle.fed_json.proofs.Booleans.{both_true, right_true}
use Rattle.base64url.proofs.Canonical.{is_utf8-base64url}
use Rattle.base64url.specs.Base64url.{base64url}
use Rattle.jws_form.specs.declared.compact.Compact.{Compact}
use Rattle.jws_form.specs.Compact.{IsCompact, joined, signing_input_of, stop}
use Rattle.entity_statement.specs.Claims.{Claims}
use Rattle.entity_statement.specs.Signed.{statement_of}
use Rattle.chain_check.specs.Chains.{HasForm, Texts, statements_of}
use Rattle.chain_check.specs.Validity.{Case, IsValid, chain_of}
use Rattle.chain_check.specs.Verdicts.{least_exp}

-- ---- a statement for each text

reads_each : (texts : Texts) → ((j : ℕ) → j < length texts → (text : List ℕ) × (slice_get texts j ≡ Some text) × IsSome (statement_of text)) → length (filter_map statement_of texts) ≡ length texts
reads_each [] reads = refl
reads_each (text ∷ texts) reads =
    let here = reads 0 (omega arith) in
    let same : text ≡ here.0 = cc (here.1) in
    more (statement_of text) (filter_map statement_of texts) (subst (λ t. IsSome (statement_of t)) (sym same) here.2) (reads_each texts (λ j less. reads (suc j) (omega (arith, less))))
  where
    more : (o : Option Claims) (rest : List Claims) → IsSome o → length rest ≡ length texts → length (cons_option o rest) ≡ suc (length texts)
    more None rest some same = absurd (true≢false (sym some))
    more (Some s) rest some same = ap suc same

pub form-length : (texts : Texts) → HasForm texts → length (statements_of texts) ≡ length texts
unfolding statements_of
form-length texts form = reads_each texts (λ j less. let r = form j (omega (arith, less)) in (r.text, r.there, r.reads))

form-some : (texts : Texts) → HasForm texts → 0 < length texts
form-some [] form = let r = form 0 (omega arith) in let bad = r.there in cc bad
form-some (text ∷ texts) form = omega arith

-- ---- the end

fold-above : (t exp : ℕ) (statements : List Claims) → t < exp → ((j : ℕ) (s : Claims) → slice_get statements j ≡ Some s → t < s.exp) → t < fold (λ least s. min least s.exp) exp statements
fold-above t exp [] here later = here
fold-above t exp (s ∷ rest) here later =
    let first : t < s.exp = later 0 s refl in
    fold-above t (min exp s.exp) rest (omega (arith, here, first)) (λ j statement there. later (suc j) statement there)

least-above : (t : ℕ) (statements : List Claims) → 0 < length statements → ((j : ℕ) (s : Claims) → slice_get statements j ≡ Some s → t < s.exp) → t < least_exp statements
unfolding least_exp
least-above t [] some each = absurd (omega (arith, some))
least-above t (leaf ∷ rest) some each = fold-above t leaf.exp rest (each 0 leaf refl) (λ j s there. each (suc j) s there)

-- a valid chain ends after the moment at which it is valid
pub valid-lasts : (case : Case) → IsValid case → case.moment < least_exp (chain_of case)
valid-lasts case valid =
    let size = form-length case.texts valid.form in
    let some = form-some case.texts valid.form in
    least-above case.moment (chain_of case) (omega (arith, size, some))
    (λ j s there. ltb-true case.moment s.exp (right_true (nat_le s.iat (case.moment + 60)) _ (valid.current j (slice_get_within (chain_of case) j s there) s there)))

-- ---- the texts

base64url-utf8 : (b : List ℕ) → IsUtf8 (base64url b)
base64url-utf8 b = IsUtf8-from_is_utf8 _ (is_utf8-base64url b)

stop-ascii : IsAscii (stop ∷ [])
stop-ascii zero = omega arith
stop-ascii (suc i) = omega arith

stop-utf8 : IsUtf8 (stop ∷ [])
stop-utf8 = IsUtf8-from_ascii (stop ∷ []) stop-ascii

with-stop : (a b : List ℕ) → IsUtf8 a → IsUtf8 b → IsUtf8 (a ++ stop ∷ b)
with-stop a b one two = IsUtf8-append a (stop ∷ b) one (IsUtf8-append (stop ∷ []) b stop-utf8 two)

compact-utf8 : (text : List ℕ) (c : Compact) → IsCompact text c → is_utf8 text ≡ true
compact-utf8 text c is =
    let input = is.input in
    let whole : text ≡ joined (signing_input_of input.header c.payload) c.signature = is.text_is ∙ ap (λ s. joined s c.signature) input.signed_is in
    let parts = with-stop (signing_input_of input.header c.payload) (base64url c.signature) (with-stop (base64url input.header) (base64url c.payload) (base64url-utf8 input.header) (base64url-utf8 c.payload)) (base64url-utf8 c.signature) in
    is_utf8-from_IsUtf8 text (subst IsUtf8 (sym whole) parts)

each-all : (p : List ℕ → Bool) (texts : Texts) → ((i : ℕ) → i < length texts → p (slice_index_or texts i []) ≡ true) → list_all p texts ≡ true
each-all p [] each = refl
each-all p (text ∷ texts) each = both_true (each 0 (omega arith)) (each-all p texts (λ i less. each (suc i) (omega (arith, less))))

-- each text of a valid chain is UTF-8
pub valid-utf8 : (case : Case) → IsValid case → list_all is_utf8 case.texts ≡ true
valid-utf8 case valid =
    let size = form-length case.texts valid.form in
    each-all is_utf8 case.texts
    (λ i less. let signed = (valid.signed i (omega (arith, size, less))).by_superior in compact-utf8 (slice_index_or case.texts i []) signed.compact signed.splits)
