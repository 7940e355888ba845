-- Trust marks of a leaf: which issuers are searched for them, and which marks a reply returns (OpenID Federation 1.0 section 7).
use Rattle.std.specs.Prelude.{◌≡◌, ◌⊎◌, ℕ, List, [], ◌∷◌, take, map, sum_by, bytes_eq, Bool, false, ◌&&◌, Option, Some, None, option_and_then, if◌then◌else◌}
use Rattle.std.specs.List.{filter_map}
use Rattle.std.specs.Option.{option_map_or}
use Rattle.jwk_set.specs.declared.jwk.Jwk.{Jwk}
use Rattle.entity_statement.specs.Claims.{Claims, Identifier}
use Rattle.entity_statement.specs.Forms.{once}
use Rattle.entity_statement.specs.declared.marks.MarkEntry.{MarkEntry}
use Rattle.trust_mark.specs.Conditions.{admits}
use Rattle.trust_mark.specs.Counts.{mark_tests}
use Rattle.trust_mark.specs.Marks.{Case, MarkOk, case_of, issuers_of, mark_of}
use Rattle.trust_mark.specs.declared.mark.Mark.{Mark}
use Rattle.resolve_reply.specs.declared.marks.GoodMarks.{GoodMarks}
use Rattle.resolve_reply.specs.declared.issuers.Issuer.{Issuer}
use Rattle.resolve_reply.specs.Replies.{least_with}

-- ---- issuers

-- how many marks of a leaf are looked at
abbrev pub max_marks : ℕ
max_marks = 16

-- the marks that are looked at
unfoldable pub looked_at : List MarkEntry → List MarkEntry
looked_at marks = take max_marks marks

-- the anchor lists the mark's type, and lets its issuer issue marks of the type (section 3.1.2, `trust_mark_issuers`)
abbrev pub is_admitted : Claims → Mark → Bool
is_admitted anchor mark = option_map_or (λ who. admits who mark.iss) (issuers_of anchor mark.mark_type) false

-- the mark is of its entry's type, and the anchor admits its issuer
abbrev pub is_searched : Claims → MarkEntry → Mark → Bool
is_searched anchor entry mark = bytes_eq mark.mark_type entry.mark_type && is_admitted anchor mark

-- the issuer of such a mark
abbrev pub issuer_of_mark : Claims → MarkEntry → Mark → Option Identifier
issuer_of_mark anchor entry mark = if is_searched anchor entry mark then Some mark.iss else None

-- the issuer whose chain is searched for an entry, where its text reads as such a mark
unfoldable pub searched_for : Claims → MarkEntry → Option Identifier
searched_for anchor entry = option_and_then (issuer_of_mark anchor entry) (mark_of entry.text)

-- those of the marks that are looked at, one by one
abbrev pub issuers_by_mark : List MarkEntry → Claims → List (Option Identifier)
issuers_by_mark marks anchor = map (searched_for anchor) (looked_at marks)

-- the issuers that are named, each once, in their order
unfoldable pub each_named : List (Option Identifier) → List Identifier
each_named named = once (filter_map (λ issuer. issuer) named)

-- the issuers that are searched, each once, in the order of the marks
abbrev pub searched_issuers : List MarkEntry → Claims → List Identifier
searched_issuers marks anchor = each_named (issuers_by_mark marks anchor)

-- the keys of the configuration of each issuer whose chain was found
abbrev pub IssuerKeys : Type 0
IssuerKeys = Identifier → Option (List Jwk)

-- the first of some issuers with this identifier
abbrev pub keys_of : List Issuer → IssuerKeys
keys_of [] iss = None
keys_of (issuer ∷ issuers) iss = if bytes_eq issuer.id iss then Some issuer.keys.keys else keys_of issuers iss

-- the text of the configuration of each issuer whose chain was found
abbrev pub IssuerTexts : Type 0
IssuerTexts = Identifier → Option (List ℕ)

-- the first of some issuers with this identifier
abbrev pub text_of : List Issuer → IssuerTexts
text_of [] iss = None
text_of (issuer ∷ issuers) iss = if bytes_eq issuer.id iss then Some issuer.text else text_of issuers iss

-- the configuration of the issuer of the mark that an entry's text reads as
unfoldable pub config_of : IssuerTexts → MarkEntry → Option (List ℕ)
config_of texts entry = option_and_then (λ mark. texts mark.iss) (mark_of entry.text)

-- the configurations of the issuers of some marks: one for each mark, in their order
abbrev pub AreConfigs : IssuerTexts → List MarkEntry → List (List ℕ) → Type 0
AreConfigs texts marks configs = map Some configs ≡ map (config_of texts) marks

-- ---- good marks

-- by what a leaf's marks are judged: the leaf, the anchor's configuration, the keys of the issuers, and the moment
pub record Judging : Type 0 where
  pub leaf : Identifier
  pub anchor : Claims
  pub keys : IssuerKeys
  pub moment : ℕ

-- the same, where these issuers' chains were found
abbrev pub judging_by : Identifier → Claims → List Issuer → ℕ → Judging
judging_by leaf anchor issuers t = record { leaf = leaf; anchor = anchor; keys = keys_of issuers; moment = t }

-- an entry by the keys of its mark's issuer (section 7.3)
abbrev pub case_by : Judging → MarkEntry → List Jwk → Case
case_by here entry keys = case_of entry here.leaf here.anchor keys here.moment

-- the entry's mark is good, and a chain of its issuer was found
pub record IsReturned (here : Judging) (entry : MarkEntry) (mark : Mark) : Type 0 where
  pub keys : List Jwk
  pub found : here.keys mark.iss ≡ Some keys
  pub good : MarkOk (case_by here entry keys) mark

-- the second list has, in order, each element of the first of which the fact holds, with what it holds of
abbrev pub AreThose : {X Y : Type 0} → (X → Y → Type 0) → List X → List (X × Y) → Type 0
AreThose P [] those = those ≡ []
AreThose {X} {Y} P (x ∷ xs) those =
    ((y : Y) × (rest : List (X × Y)) × (those ≡ (x, y) ∷ rest) × P x y × AreThose P xs rest) ⊎ (((y : Y) → ¬ P x y) × AreThose P xs those)

-- the good marks of some entries, in order, and the least of a chain's end and theirs
pub record AreGood (here : Judging) (entries : List MarkEntry) (exp : ℕ) (good : GoodMarks) : Type 0 where
  pub marks : List (MarkEntry × Mark)
  pub those : AreThose (IsReturned here) entries marks
  pub entries_are : good.entries ≡ map (λ m. m.0) marks
  pub exp_is : good.exp ≡ least_with exp (map (λ m. m.1) marks)

-- ---- tests of signatures

-- how many signatures a mark costs: none where no chain of its issuer was found
abbrev pub tests_by : Judging → MarkEntry → Mark → ℕ
tests_by here entry mark = option_map_or (λ keys. mark_tests (case_by here entry keys)) (here.keys mark.iss) 0

unfoldable pub tests_for : Judging → MarkEntry → ℕ
tests_for here entry = option_map_or (tests_by here entry) (mark_of entry.text) 0

-- how many signatures some entries cost
abbrev pub tests_of_marks : Judging → List MarkEntry → ℕ
tests_of_marks here entries = sum_by (tests_for here) entries
