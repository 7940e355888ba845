-- What is read is a statement, and each statement is read as what it says.
use Rattle.std.proofs.Common.{◌≡◌, ◌≢◌, ℕ, List, [], ◌∷◌, codes, Bool, true, false, not, cond, bytes_eq, Option, Some, None, Result, Ok, Err, IfOk, refl, sym, ap, ◌∙◌, subst}
use Rattle.std.specs.Prelude.{MatchOption}
use Rattle.std.specs.Option.{ok_or, option_and_then}
use Rattle.std.specs.List.{list_all, find as first_that}
use Rattle.std.proofs.lemmas.Bool.{true≢false}
use Rattle.fed_base.specs.Answers.{◌>>=◌}
use Rattle.fed_json.specs.declared.tree.Json.{Json}
use Rattle.fed_json.specs.declared.tree.Member.{Member}
use Rattle.fed_json.specs.Reading.{tree_in}
use Rattle.fed_json.specs.Trees.{as_object, find, texts_of}
use Rattle.fed_json.proofs.Accessors.{Object-as_object, as_object-Object}
use Rattle.fed_json.proofs.Booleans.{both_true, left_true, right_true}
use Rattle.jws_form.specs.declared.compact.Compact.{Compact}
use Rattle.jwk_set.specs.declared.jwk.Jwk.{Jwk}
use Rattle.jwk_set.specs.declared.fault.SetFault.{SetFault}
use Rattle.jwk_set.specs.KeySets.{key_set_in}
use Rattle.jwk_set.proofs.Sets.{found as set_found, only as set_only}
use Rattle.fed_json.specs.Metadata.{IsMetadata}
use Rattle.policy_merge.specs.Shapes.{policy_shape}
use Rattle.fed_json.proofs.Order.{bytes_eq-itself, equal-bytes_eq}
use Rattle.fed_json.specs.Tables.{Name}
use Rattle.chain_limits.specs.Reading.{Texts, no_constraints, constraints_of}
use Rattle.entity_statement.specs.declared.fault.StatementFault.{StatementFault}
use Rattle.entity_statement.specs.declared.fault.StatementFault.TheVariants.{Missing, Shape, Tree, Typ}
use Rattle.entity_statement.specs.declared.statement.Statement.{Statement}
use Rattle.entity_statement.specs.Claims.{Claims, Identifier, no_metadata}
use Rattle.entity_statement.specs.Told.{told}
use Rattle.entity_statement.specs.Forms.{hints_of, identifier, issuers_of, marks_of, metadata_of, moment, owners_of}
use Rattle.entity_statement.specs.Table.{GivesBy, all_understood, claims_in, claims_of, claims_of_tree, constraints_in, critical, critical_operators, formed, hints_in, in_place, is_operator, is_statement_type, key_set, keyed, mark_issuers_in, mark_owners_in, marks_in, metadata_in, optional, placed, policy_crit_in, policy_in, read_where, required, said, statement_type, unless_empty, unless_strange}
use Rattle.entity_statement.specs.Grammar.{AreOperators, HoldsKeys, IsStatement, MaySay, NamesEntity, NamesMoment, SaysClaims}
use Rattle.entity_statement.proofs.Answers.{ok_or-ok, then-ok}
use Rattle.entity_statement.proofs.Facts.{metadata_of-is, required-small}
use Rattle.entity_statement.proofs.Identities.{identifier-is, identifier-of, moment-is, moment-of}
use Rattle.entity_statement.proofs.Rows.{Rows, made, rows}

-- ---- claims that must be there

entity-is : (name : Name) (members : List Member) (id : Identifier) → required name (formed identifier) members ≡ Ok id → NamesEntity name members id
entity-is name members id e =
    let found = then-ok (ok_or (find name members) (Missing name)) (formed identifier name) id e in
    let is = identifier-is found.0 id (ok_or-ok (identifier found.0) (Shape name) id found.2) in
    (ok_or-ok (find name members) (Missing name) found.0 found.1 ∙ ap Some is.0, is.1)

entity-of : (name : Name) (members : List Member) (id : Identifier) → NamesEntity name members id → required name (formed identifier) members ≡ Ok id
entity-of name members id n = ap (λ o. ok_or o (Missing name) >>= formed identifier name) n.0 ∙ ap (λ o. ok_or o (Shape name)) (identifier-of id n.1)

moment_at-is : (name : Name) (members : List Member) (n : ℕ) → required name (formed moment) members ≡ Ok n → NamesMoment name members n
moment_at-is name members n e =
    let found = then-ok (ok_or (find name members) (Missing name)) (formed moment name) n e in
    (ok_or-ok (find name members) (Missing name) found.0 found.1 ∙ ap Some (moment-is found.0 n (ok_or-ok (moment found.0) (Shape name) n found.2)), required-small name members n e)

moment_at-of : (name : Name) (members : List Member) (n : ℕ) → NamesMoment name members n → required name (formed moment) members ≡ Ok n
moment_at-of name members n m = ap (λ o. ok_or o (Missing name) >>= formed moment name) m.0 ∙ ap (λ o. ok_or o (Shape name)) (moment-of n m.1)

keyed-ok : (r : Result (List Jwk) SetFault) (keys : List Jwk) → keyed r ≡ Ok keys → r ≡ Ok keys
keyed-ok (Ok ks) keys e = let same : ks ≡ keys = cc e in ap Ok same
keyed-ok (Err f) keys e = cc e

keys-are : (name : Name) (members : List Member) (keys : List Jwk) → required name key_set members ≡ Ok keys → HoldsKeys name members keys
keys-are name members keys e =
    let found = then-ok (ok_or (find name members) (Missing name)) (key_set name) keys e in
    (found.0, ok_or-ok (find name members) (Missing name) found.0 found.1, set_found found.0 keys (keyed-ok (key_set_in found.0) keys found.2))

keys-of : (name : Name) (members : List Member) (keys : List Jwk) → HoldsKeys name members keys → required name key_set members ≡ Ok keys
keys-of name members keys h = ap (λ o. ok_or o (Missing name) >>= key_set name) h.1 ∙ ap keyed (set_only h.0 keys h.2)

-- ---- claims that may be absent

may-is : {X : Type 0} (E : Type 0) (P : Json → Type 0) (empty : X) (says : Json → Result X StatementFault) (o : Option Json) (x : X)
    → (empty ≡ x → E) → ((tree : Json) → says tree ≡ Ok x → P tree) → said empty says o ≡ Ok x → MatchOption o E P
may-is E P empty says None x none each e = let same : empty ≡ x = cc e in none same
may-is E P empty says (Some tree) x none each e = each tree e

may-of : {X : Type 0} (E : Type 0) (P : Json → Type 0) (empty : X) (says : Json → Result X StatementFault) (o : Option Json) (x : X)
    → (E → empty ≡ x) → ((tree : Json) → P tree → says tree ≡ Ok x) → MatchOption o E P → said empty says o ≡ Ok x
may-of E P empty says None x none each is = ap Ok (none is)
may-of E P empty says (Some tree) x none each is = each tree is

-- `crit` names something that isn't understood, whatever it is
some_strange : (names : Texts) (x : Unit {0}) → all_understood (λ claim. false) names ≡ Ok x → names ≡ []
some_strange [] x e = refl
some_strange (name ∷ names) x e = cc e

none_empty : (o : Option Texts) → option_and_then unless_empty o ≡ Some [] → ⊥
none_empty None e = cc e
none_empty (Some []) e = cc e
none_empty (Some (t ∷ ts)) e = cc e

critical-not : (name : Name) (tree : Json) (x : Unit {0}) → critical name tree ≡ Ok x → ⊥
unfolding critical
critical-not name tree x e =
    let names = then-ok (ok_or (option_and_then unless_empty (texts_of tree)) (Shape name)) (all_understood (λ claim. false)) x e in
    none_empty (texts_of tree) (ok_or-ok (option_and_then unless_empty (texts_of tree)) (Shape name) names.0 names.1 ∙ ap Some (some_strange names.0 x names.2))

crit-none : (o : Option Json) → said tt (critical (codes "crit")) o ≡ Ok tt → o ≡ None
crit-none None e = refl
crit-none (Some tree) e = absurd (critical-not (codes "crit") tree tt e)

-- ---- configurations, and statements about subordinates

own-is : (a b : Identifier) → a ≡ b → bytes_eq a b ≡ true
own-is a b same = ap (bytes_eq a) (sym same) ∙ bytes_eq-itself a

others-are : (a b : Identifier) → not (bytes_eq a b) ≡ true → a ≢ b
others-are a b differ = λ same. true≢false (sym differ ∙ ap not (own-is a b same))

others-of : (a b : Identifier) → a ≢ b → bytes_eq a b ≡ false
others-of a b apart = by_case (bytes_eq a b) refl
  where
    by_case : (r : Bool) → bytes_eq a b ≡ r → bytes_eq a b ≡ false
    by_case true is = absurd (apart (equal-bytes_eq a b is))
    by_case false is = is

in_place-is : (here : Bool) (name : Name) (x : Unit {0}) → in_place here name ≡ Ok x → here ≡ true
in_place-is true name x e = refl
in_place-is false name x e = cc e

placed-is : {X : Type 0} (here : Bool) (form : Json → Option X) (name : Name) (tree : Json) (x : X) → placed here (formed form) name tree ≡ Ok x → (here ≡ true) × (form tree ≡ Some x)
placed-is here form name tree x e =
    let place = then-ok (in_place here name) (λ is. formed form name tree) x e in
    (in_place-is here name place.0 place.1, ok_or-ok (form tree) (Shape name) x place.2)

placed-of : {X : Type 0} (here : Bool) (form : Json → Option X) (name : Name) (tree : Json) (x : X) → here ≡ true → form tree ≡ Some x → placed here (formed form) name tree ≡ Ok x
placed-of here form name tree x place is = ap (λ b. in_place b name >>= λ is. formed form name tree) place ∙ ap (λ o. ok_or o (Shape name)) is

read-there : {X : Type 0} (own : Bool) (empty : X) (claim : Result X StatementFault) (x : X) → read_where own empty claim ≡ Ok x → own ≡ true → claim ≡ Ok x
read-there true empty claim x e is = e
read-there false empty claim x e is = absurd (true≢false (sym is))

read-elsewhere : {X : Type 0} (own : Bool) (empty : X) (claim : Result X StatementFault) (x : X) → read_where own empty claim ≡ Ok x → own ≡ false → x ≡ empty
read-elsewhere true empty claim x e is = absurd (true≢false is)
read-elsewhere false empty claim x e is = let same : empty ≡ x = cc e in sym same

read-of : {X : Type 0} (own : Bool) (empty : X) (claim : Result X StatementFault) (x : X) → (own ≡ true → claim ≡ Ok x) → (own ≡ false → x ≡ empty) → read_where own empty claim ≡ Ok x
read-of true empty claim x there elsewhere = there refl
read-of false empty claim x there elsewhere = ap Ok (sym (elsewhere refl))

-- ---- operators that must be understood

strange-step : (b : Bool) (name : Name) (rest : Option Name) (x : Unit {0}) → unless_strange (cond (not b) (Some name) rest) ≡ Ok x → (b ≡ true) × (unless_strange rest ≡ Ok x)
strange-step true name rest x e = (refl, e)
strange-step false name rest x e = cc e

understood-all : (names : Texts) (x : Unit {0}) → all_understood is_operator names ≡ Ok x → list_all is_operator names ≡ true
understood-all [] x e = refl
understood-all (name ∷ names) x e =
    let step = strange-step (is_operator name) name (first_that (λ n. not (is_operator n)) names) x e in
    both_true step.0 (understood-all names x step.1)

all-understood : (names : Texts) → list_all is_operator names ≡ true → all_understood is_operator names ≡ Ok tt
all-understood [] all = refl
all-understood (name ∷ names) all =
    ap (λ b. unless_strange (cond (not b) (Some name) (first_that (λ n. not (is_operator n)) names))) (left_true (is_operator name) _ all)
    ∙ all-understood names (right_true (is_operator name) _ all)

operators-are : (name : Name) (tree : Json) (x : Unit {0}) → critical_operators name tree ≡ Ok x → AreOperators tree
unfolding critical_operators
operators-are name tree x e =
    let names = then-ok (ok_or (texts_of tree) (Shape name)) (all_understood is_operator) x e in
    (names.0, ok_or-ok (texts_of tree) (Shape name) names.0 names.1, understood-all names.0 x names.2)

operators-of : (name : Name) (tree : Json) → AreOperators tree → critical_operators name tree ≡ Ok tt
unfolding critical_operators
operators-of name tree are = ap (λ o. ok_or o (Shape name) >>= all_understood is_operator) are.1 ∙ all-understood are.0 are.2

-- ---- each row and its claim

hints-are : (members : List Member) (s : Claims) → Rows members s → MaySay (codes "authority_hints") members (s.hints ≡ []) (λ tree. (s.iss ≡ s.sub) × (hints_of tree ≡ Some s.hints))
unfolding hints_in
hints-are members s r =
    let own = bytes_eq s.iss s.sub in
    may-is (s.hints ≡ []) (λ tree. (s.iss ≡ s.sub) × (hints_of tree ≡ Some s.hints)) [] (placed own (formed hints_of) (codes "authority_hints")) (find (codes "authority_hints") members) s.hints sym
    (λ tree e. let is = placed-is own hints_of _ tree s.hints e in (equal-bytes_eq s.iss s.sub is.0, is.1)) r.hints

hints-row : (members : List Member) (s : Claims) → SaysClaims members s → hints_in (bytes_eq s.iss s.sub) members ≡ Ok s.hints
unfolding hints_in
hints-row members s c =
    let own = bytes_eq s.iss s.sub in
    may-of (s.hints ≡ []) (λ tree. (s.iss ≡ s.sub) × (hints_of tree ≡ Some s.hints)) [] (placed own (formed hints_of) (codes "authority_hints")) (find (codes "authority_hints") members) s.hints sym
    (λ tree is. placed-of own hints_of _ tree s.hints (own-is s.iss s.sub is.0) is.1) c.authority_hints

metadata-says : (members : List Member) (s : Claims) → Rows members s → MaySay (codes "metadata") members (s.metadata ≡ no_metadata) (λ tree. IsMetadata tree × (s.metadata ≡ tree))
unfolding metadata_in
metadata-says members s r =
    may-is (s.metadata ≡ no_metadata) (λ tree. IsMetadata tree × (s.metadata ≡ tree)) no_metadata (formed metadata_of (codes "metadata")) (find (codes "metadata") members) s.metadata sym
    (λ tree e. let is = metadata_of-is tree s.metadata (ok_or-ok (metadata_of tree) (Shape (codes "metadata")) s.metadata e) in (is.0, sym is.1)) r.metadata

metadata_of-of : (tree m : Json) → IsMetadata tree × (m ≡ tree) → metadata_of tree ≡ Some m
unfolding metadata_of
metadata_of-of tree m is = ap (λ b. cond b (Some tree) None) is.0 ∙ ap Some (sym is.1)

metadata-row : (members : List Member) (s : Claims) → SaysClaims members s → metadata_in members ≡ Ok s.metadata
unfolding metadata_in
metadata-row members s c =
    may-of (s.metadata ≡ no_metadata) (λ tree. IsMetadata tree × (s.metadata ≡ tree)) no_metadata (formed metadata_of (codes "metadata")) (find (codes "metadata") members) s.metadata sym
    (λ tree is. ap (λ o. ok_or o (Shape (codes "metadata"))) (metadata_of-of tree s.metadata is)) c.metadata

policy-says : (members : List Member) (s : Claims) → Rows members s → MaySay (codes "metadata_policy") members (s.policy ≡ []) (λ tree. (s.iss ≢ s.sub) × (policy_shape tree ≡ Some s.policy))
unfolding policy_in
policy-says members s r =
    let below = not (bytes_eq s.iss s.sub) in
    may-is (s.policy ≡ []) (λ tree. (s.iss ≢ s.sub) × (policy_shape tree ≡ Some s.policy)) [] (placed below (formed policy_shape) (codes "metadata_policy")) (find (codes "metadata_policy") members) s.policy sym
    (λ tree e. let is = placed-is below policy_shape _ tree s.policy e in (others-are s.iss s.sub is.0, is.1)) r.policy

policy-row : (members : List Member) (s : Claims) → SaysClaims members s → policy_in (bytes_eq s.iss s.sub) members ≡ Ok s.policy
unfolding policy_in
policy-row members s c =
    let below = not (bytes_eq s.iss s.sub) in
    may-of (s.policy ≡ []) (λ tree. (s.iss ≢ s.sub) × (policy_shape tree ≡ Some s.policy)) [] (placed below (formed policy_shape) (codes "metadata_policy")) (find (codes "metadata_policy") members) s.policy sym
    (λ tree is. placed-of below policy_shape _ tree s.policy (ap not (others-of s.iss s.sub is.0)) is.1) c.metadata_policy

operators-say : (members : List Member) (s : Claims) → Rows members s → MaySay (codes "metadata_policy_crit") members (Unit {0}) (λ tree. (s.iss ≢ s.sub) × AreOperators tree)
unfolding policy_crit_in
operators-say members s r =
    let below = not (bytes_eq s.iss s.sub) in
    let name = codes "metadata_policy_crit" in
    may-is (Unit {0}) (λ tree. (s.iss ≢ s.sub) × AreOperators tree) tt (placed below critical_operators name) (find name members) tt (λ same. tt)
    (λ tree e. let place = then-ok (in_place below name) (λ is. critical_operators name tree) tt e in
    (others-are s.iss s.sub (in_place-is below name place.0 place.1), operators-are name tree tt place.2)) r.policy_crit

operators-row : (members : List Member) (s : Claims) → SaysClaims members s → policy_crit_in (bytes_eq s.iss s.sub) members ≡ Ok tt
unfolding policy_crit_in
operators-row members s c =
    let below = not (bytes_eq s.iss s.sub) in
    let name = codes "metadata_policy_crit" in
    may-of (Unit {0}) (λ tree. (s.iss ≢ s.sub) × AreOperators tree) tt (placed below critical_operators name) (find name members) tt (λ none. refl)
    (λ tree is. ap (λ b. in_place b name >>= λ is. critical_operators name tree) (ap not (others-of s.iss s.sub is.0)) ∙ operators-of name tree is.1) c.metadata_policy_crit

constraints-say : (members : List Member) (s : Claims) → Rows members s → MaySay (codes "constraints") members (s.constraints ≡ no_constraints) (λ tree. (s.iss ≢ s.sub) × (constraints_of tree ≡ Some s.constraints))
unfolding constraints_in
constraints-say members s r =
    let below = not (bytes_eq s.iss s.sub) in
    may-is (s.constraints ≡ no_constraints) (λ tree. (s.iss ≢ s.sub) × (constraints_of tree ≡ Some s.constraints)) no_constraints (placed below (formed constraints_of) (codes "constraints")) (find (codes "constraints") members) s.constraints sym
    (λ tree e. let is = placed-is below constraints_of _ tree s.constraints e in (others-are s.iss s.sub is.0, is.1)) r.constraints

constraints-row : (members : List Member) (s : Claims) → SaysClaims members s → constraints_in (bytes_eq s.iss s.sub) members ≡ Ok s.constraints
unfolding constraints_in
constraints-row members s c =
    let below = not (bytes_eq s.iss s.sub) in
    may-of (s.constraints ≡ no_constraints) (λ tree. (s.iss ≢ s.sub) × (constraints_of tree ≡ Some s.constraints)) no_constraints (placed below (formed constraints_of) (codes "constraints")) (find (codes "constraints") members) s.constraints sym
    (λ tree is. placed-of below constraints_of _ tree s.constraints (ap not (others-of s.iss s.sub is.0)) is.1) c.constraints

-- a claim that is read in a configuration alone
listed-says : {X : Type 0} (form : Json → Option (List X)) (name : Name) (members : List Member) (a b : Identifier) (xs : List X)
    → read_where (bytes_eq a b) [] (optional [] name (formed form) members) ≡ Ok xs → a ≡ b → MaySay name members (xs ≡ []) (λ tree. form tree ≡ Some xs)
listed-says form name members a b xs e same =
    may-is (xs ≡ []) (λ tree. form tree ≡ Some xs) [] (formed form name) (find name members) xs sym (λ tree is. ok_or-ok (form tree) (Shape name) xs is)
    (read-there (bytes_eq a b) [] (optional [] name (formed form) members) xs e (own-is a b same))

listed-row : {X : Type 0} (form : Json → Option (List X)) (name : Name) (members : List Member) (a b : Identifier) (xs : List X)
    → (a ≡ b → MaySay name members (xs ≡ []) (λ tree. form tree ≡ Some xs)) → (a ≢ b → xs ≡ []) → read_where (bytes_eq a b) [] (optional [] name (formed form) members) ≡ Ok xs
listed-row form name members a b xs there elsewhere =
    read-of (bytes_eq a b) [] (optional [] name (formed form) members) xs
    (λ own. may-of (xs ≡ []) (λ tree. form tree ≡ Some xs) [] (formed form name) (find name members) xs sym (λ tree is. ap (λ o. ok_or o (Shape name)) is) (there (equal-bytes_eq a b own)))
    (λ other. elsewhere (others-are a b (ap not other)))

marks-say : (members : List Member) (s : Claims) → Rows members s → s.iss ≡ s.sub → MaySay (codes "trust_marks") members (s.marks ≡ []) (λ tree. marks_of tree ≡ Some s.marks)
unfolding marks_in
marks-say members s r = listed-says marks_of (codes "trust_marks") members s.iss s.sub s.marks r.marks

marks-row : (members : List Member) (s : Claims) → SaysClaims members s → marks_in (bytes_eq s.iss s.sub) members ≡ Ok s.marks
unfolding marks_in
marks-row members s c = listed-row marks_of (codes "trust_marks") members s.iss s.sub s.marks c.trust_marks (λ apart. (c.unmarked apart).0)

issuers-say : (members : List Member) (s : Claims) → Rows members s → s.iss ≡ s.sub → MaySay (codes "trust_mark_issuers") members (s.issuers ≡ []) (λ tree. issuers_of tree ≡ Some s.issuers)
unfolding mark_issuers_in
issuers-say members s r = listed-says issuers_of (codes "trust_mark_issuers") members s.iss s.sub s.issuers r.issuers

issuers-row : (members : List Member) (s : Claims) → SaysClaims members s → mark_issuers_in (bytes_eq s.iss s.sub) members ≡ Ok s.issuers
unfolding mark_issuers_in
issuers-row members s c = listed-row issuers_of (codes "trust_mark_issuers") members s.iss s.sub s.issuers c.trust_mark_issuers (λ apart. (c.unmarked apart).1)

owners-say : (members : List Member) (s : Claims) → Rows members s → s.iss ≡ s.sub → MaySay (codes "trust_mark_owners") members (s.owners ≡ []) (λ tree. owners_of tree ≡ Some s.owners)
unfolding mark_owners_in
owners-say members s r = listed-says owners_of (codes "trust_mark_owners") members s.iss s.sub s.owners r.owners

owners-row : (members : List Member) (s : Claims) → SaysClaims members s → mark_owners_in (bytes_eq s.iss s.sub) members ≡ Ok s.owners
unfolding mark_owners_in
owners-row members s c = listed-row owners_of (codes "trust_mark_owners") members s.iss s.sub s.owners c.trust_mark_owners (λ apart. (c.unmarked apart).2)

unmarked : (members : List Member) (s : Claims) → Rows members s → s.iss ≢ s.sub → (s.marks ≡ []) × (s.issuers ≡ []) × (s.owners ≡ [])
unfolding marks_in mark_issuers_in mark_owners_in
unmarked members s r apart =
    let other = others-of s.iss s.sub apart in (
      read-elsewhere (bytes_eq s.iss s.sub) [] (optional [] (codes "trust_marks") (formed marks_of) members) s.marks r.marks other,
      read-elsewhere (bytes_eq s.iss s.sub) [] (optional [] (codes "trust_mark_issuers") (formed issuers_of) members) s.issuers r.issuers other,
      read-elsewhere (bytes_eq s.iss s.sub) [] (optional [] (codes "trust_mark_owners") (formed owners_of) members) s.owners r.owners other,
    )

-- ---- the members

says : (members : List Member) (s : Claims) → Rows members s → SaysClaims members s
says members s r = record {
  crit = crit-none (find (codes "crit") members) r.crit;
  iss = entity-is (codes "iss") members s.iss r.iss;
  sub = entity-is (codes "sub") members s.sub r.sub;
  iat = moment_at-is (codes "iat") members s.iat r.iat;
  exp = moment_at-is (codes "exp") members s.exp r.exp;
  jwks = keys-are (codes "jwks") members s.keys r.keys;
  authority_hints = hints-are members s r;
  metadata = metadata-says members s r;
  metadata_policy = policy-says members s r;
  metadata_policy_crit = operators-say members s r;
  constraints = constraints-say members s r;
  trust_marks = marks-say members s r;
  trust_mark_issuers = issuers-say members s r;
  trust_mark_owners = owners-say members s r;
  unmarked = unmarked members s r;
}

all_rows : (members : List Member) (s : Claims) → SaysClaims members s → Rows members s
all_rows members s c = record {
  crit = ap (said tt (critical (codes "crit"))) c.crit;
  iss = entity-of (codes "iss") members s.iss c.iss;
  sub = entity-of (codes "sub") members s.sub c.sub;
  iat = moment_at-of (codes "iat") members s.iat c.iat;
  exp = moment_at-of (codes "exp") members s.exp c.exp;
  keys = keys-of (codes "jwks") members s.keys c.jwks;
  hints = hints-row members s c;
  metadata = metadata-row members s c;
  policy = policy-row members s c;
  policy_crit = operators-row members s c;
  constraints = constraints-row members s c;
  marks = marks-row members s c;
  issuers = issuers-row members s c;
  owners = owners-row members s c;
}

-- ---- the text

typed : (typ : Option (List ℕ)) → is_statement_type typ ≡ true → typ ≡ Some statement_type
typed None e = cc e
typed (Some t) e = ap Some (equal-bytes_eq t statement_type e)

passes : {X : Type 0} (b : Bool) (m : Result X StatementFault) (x : X) → cond b m (Err Typ) ≡ Ok x → (b ≡ true) × (m ≡ Ok x)
passes true m x e = (refl, e)
passes false m x e = cc e

pub found : (c : Compact) (s : Claims) → claims_of c ≡ Ok s → IsStatement c s
unfolding claims_of claims_of_tree
found c s e =
    let test = passes (is_statement_type c.typ) (ok_or (tree_in c.payload) Tree >>= claims_of_tree) s e in
    let tree = then-ok (ok_or (tree_in c.payload) Tree) claims_of_tree s test.1 in
    let object = then-ok (ok_or (as_object tree.0) Tree) claims_in s tree.2 in
    record {
      typed = typed c.typ test.0;
      members = object.0;
      object = ok_or-ok (tree_in c.payload) Tree tree.0 tree.1 ∙ ap Some (Object-as_object tree.0 object.0 (ok_or-ok (as_object tree.0) Tree object.0 object.1));
      says = says object.0 s (rows object.0 s object.2);
    }

pub only : (c : Compact) (s : Claims) → IsStatement c s → claims_of c ≡ Ok s
unfolding claims_of claims_of_tree
only c s is =
    let claims : Result Claims StatementFault = ok_or (tree_in c.payload) Tree >>= claims_of_tree in
    ap (λ t. cond (is_statement_type t) claims (Err Typ)) is.typed
    ∙ ap (λ b. cond b claims (Err Typ)) (bytes_eq-itself statement_type)
    ∙ ap (λ o. ok_or o Tree >>= claims_of_tree) is.object
    ∙ ap (λ o. ok_or o Tree >>= claims_in) (as_object-Object is.members)
    ∙ made is.members s (all_rows is.members s is.says)

pub answer_found : (c : Compact) (r : Result Statement StatementFault) → GivesBy told r (claims_of c) → IfOk r (λ s. IsStatement c (told s))
answer_found c (Ok s) e = found c (told s) e
answer_found c (Err f) e = tt

pub answer_only : (c : Compact) (r : Result Statement StatementFault) → GivesBy told r (claims_of c) → (s : Claims) → IsStatement c s → GivesBy told r (Ok s)
answer_only c r e s is = subst (GivesBy told r) (only c s is) e
