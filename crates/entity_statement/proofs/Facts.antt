-- Facts that claims have where they are read.
use Rattle.std.proofs.Common.{◌≡◌, ◌<◌, ℕ, ℤ, pos, negsuc, List, [], ◌∷◌, map, codes, Bool, true, false, ◌&&◌, not, cond, nat_lt, Option, Some, None, option_map, Ok, refl, sym, ap, ◌∙◌, subst}
use Rattle.std.specs.List.{list_all}
use Rattle.std.specs.Option.{ok_or, option_and_then, option_map_or}
use Rattle.std.specs.Str.{is_utf8, IsUtf8}
use Rattle.std.proofs.lemmas.List.Elements.{All-nil}
use Rattle.std.proofs.lemmas.Bool.{ltb-true}
use Rattle.fed_base.specs.Moments.{moment_limit}
use Rattle.fed_json.specs.declared.tree.Json.{Json}
use Rattle.fed_json.specs.declared.tree.Member.{Member}
use Rattle.fed_json.specs.Forms.{rising, well_formed, members_well_formed}
use Rattle.fed_json.specs.Trees.{as_int, as_list, as_object, as_text, each, find, if_below, text_at, texts_in, texts_of}
use Rattle.fed_json.proofs.Accessors.{List-as_list, Text-as_text, as_object-Object, well_formed-find}
use Rattle.fed_json.proofs.Booleans.{left_true, right_true, both_true}
use Rattle.fed_json.proofs.Layers.{well_formed-List, well_formed-Text, whole-Object}
use Rattle.fed_json.specs.Metadata.{is_metadata, is_object_of}
use Rattle.fed_json.specs.Trees.{is_null}
use Rattle.fed_json.specs.Tables.{Name}
use Rattle.chain_limits.specs.declared.constraints.Constraints.{Constraints}
use Rattle.chain_limits.specs.Reading.{HoldsUtf8, Texts, no_constraints, constraints_of}
use Rattle.chain_limits.proofs.Utf8.{HoldsUtf8-reading, and_then-some, map-some, members_formed}
use Rattle.entity_statement.specs.declared.fault.StatementFault.TheVariants.{Missing, Shape}
use Rattle.entity_statement.specs.declared.marks.MarkEntry.{MarkEntry}
use Rattle.entity_statement.specs.declared.marks.Issuers.{Issuers}
use Rattle.entity_statement.specs.declared.marks.Owner.{Owner}
use Rattle.entity_statement.specs.Claims.{Identifier, OwnerClaims, issuers_utf8, mark_utf8, no_metadata, told_owner}
use Rattle.entity_statement.specs.Forms.{all_differ, hints_of, identifier, issuers_in, issuers_of, mark_in, mark_of, marks_of, metadata_of, moment, once, owner_in, owner_with, owners_of, unless_many}
use Rattle.entity_statement.specs.Table.{constraints_in, formed, hints_in, in_place, mark_issuers_in, mark_owners_in, marks_in, metadata_in, optional, placed, read_where, required}
use Rattle.entity_statement.proofs.Answers.{ok_or-ok, said-fact, then-ok}
use Rattle.entity_statement.proofs.Hints.{once_after-differ}

-- ---- moments are small

below : (b : Bool) (m n : ℕ) → (b ≡ true → m < moment_limit) → cond b (Some m) None ≡ Some n → n < moment_limit
below true m n less e = let same : m ≡ n = cc e in subst (λ k. k < moment_limit) same (less refl)
below false m n less e = cc e

small_in : (o : Option ℤ) (n : ℕ) → if_below moment_limit o ≡ Some n → n < moment_limit
small_in None n e = cc e
small_in (Some (negsuc m)) n e = cc e
small_in (Some (pos m)) n e = below (nat_lt m moment_limit) m n (ltb-true m moment_limit) e

pub moment-small : (tree : Json) (n : ℕ) → moment tree ≡ Some n → n < moment_limit
unfolding moment
moment-small tree n e = small_in (as_int tree) n e

pub required-small : (name : Name) (members : List Member) (n : ℕ) → required name (formed moment) members ≡ Ok n → n < moment_limit
required-small name members n e =
    let found = then-ok (ok_or (find name members) (Missing name)) (formed moment name) n e in
    moment-small found.0 n (ok_or-ok (moment found.0) (Shape name) n found.2)

-- ---- what a claim's form says

placed-ok : {X : Type 0} (here : Bool) (form : Json → Option X) (name : Name) (tree : Json) (x : X) → placed here (formed form) name tree ≡ Ok x → form tree ≡ Some x
placed-ok here form name tree x e = ok_or-ok (form tree) (Shape name) x (then-ok (in_place here name) (λ is. formed form name tree) x e).2

-- a fact of a claim that is read in some statements alone
read-fact : {X : Type 0} (P : X → Type 0) (here : Bool) (empty : X) (form : Json → Option X) (name : Name) (members : List Member) (x : X)
    → P empty → ((tree : Json) → find name members ≡ Some tree → form tree ≡ Some x → P x) → read_where here empty (optional empty name (formed form) members) ≡ Ok x → P x
read-fact P true empty form name members x is each e =
    said-fact P empty (formed form name) (find name members) x is (λ tree found says. each tree found (ok_or-ok (form tree) (Shape name) x says)) e
read-fact P false empty form name members x is each e = let same : empty ≡ x = cc e in subst P same is

-- ---- hints differ

hints_of-differ : (tree : Json) (hints : List Identifier) → hints_of tree ≡ Some hints → all_differ hints ≡ true
unfolding hints_of
hints_of-differ tree hints e =
    let ids = map-some once (option_and_then (each identifier) (option_and_then unless_many (as_list tree))) hints e in
    subst (λ all. all_differ all ≡ true) ids.2 (once_after-differ ids.0 [] refl)

pub hints-differ : (own : Bool) (members : List Member) (hints : List Identifier) → hints_in own members ≡ Ok hints → all_differ hints ≡ true
unfolding hints_in
hints-differ own members hints e =
    said-fact (λ all. all_differ all ≡ true) [] (placed own (formed hints_of) (codes "authority_hints")) (find (codes "authority_hints") members) hints refl
    (λ tree found says. hints_of-differ tree hints (placed-ok own hints_of _ tree hints says)) e

-- ---- metadata

-- a value that a test lets pass
pub kept_text : (b : Bool) (text kept : List ℕ) → cond b (Some text) None ≡ Some kept → (b ≡ true) × (text ≡ kept)
kept_text true text kept e = (refl, cc e)
kept_text false text kept e = cc e

kept : (b : Bool) (tree m : Json) → cond b (Some tree) None ≡ Some m → (b ≡ true) × (tree ≡ m)
kept true tree m e = (refl, cc e)
kept false tree m e = cc e

pub metadata_of-is : (tree m : Json) → metadata_of tree ≡ Some m → (is_metadata tree ≡ true) × (tree ≡ m)
unfolding metadata_of
metadata_of-is tree m e = kept (is_metadata tree) tree m e

pub no_metadata-is : is_metadata no_metadata ≡ true
no_metadata-is = both_true (whole-Object []) (ap (λ o. option_map_or (list_all (λ m. is_object_of (λ value. not (is_null value)) m.value)) o false) (as_object-Object []))

pub metadata-is : (members : List Member) (m : Json) → metadata_in members ≡ Ok m → is_metadata m ≡ true
unfolding metadata_in
metadata-is members m e =
    said-fact (λ tree. is_metadata tree ≡ true) no_metadata (formed metadata_of (codes "metadata")) (find (codes "metadata") members) m no_metadata-is
    (λ tree found says. let is = metadata_of-is tree m (ok_or-ok (metadata_of tree) (Shape (codes "metadata")) m says) in subst (λ t. is_metadata t ≡ true) is.1 is.0) e

-- ---- names of constraints are UTF-8

pub constraints-utf8 : (own : Bool) (members : List Member) (limits : Constraints) → constraints_in own members ≡ Ok limits → members_well_formed members ≡ true → HoldsUtf8 limits
unfolding constraints_in
constraints-utf8 own members limits e well =
    said-fact HoldsUtf8 no_constraints (placed (not own) (formed constraints_of) (codes "constraints")) (find (codes "constraints") members) limits
    (record { permitted = tt; excluded = All-nil IsUtf8; types = tt })
    (λ tree found says. HoldsUtf8-reading tree limits (placed-ok (not own) constraints_of _ tree limits says) (well_formed-find _ members tree found well)) e

-- ---- texts of marks, issuers and owners are UTF-8

each-all : {A X : Type 0} (form : A → Option X) (P : A → Bool) (Q : X → Bool) → ((a : A) (x : X) → form a ≡ Some x → P a ≡ true → Q x ≡ true)
    → (parts : List A) (xs : List X) → each form parts ≡ Some xs → list_all P parts ≡ true → list_all Q xs ≡ true
each-all form P Q fact [] xs e all = let none : [] ≡ xs = cc e in ap (list_all Q) (sym none)
each-all form P Q fact (a ∷ parts) xs e all =
    let first = and_then-some (λ x. option_map (λ ys. x ∷ ys) (each form parts)) (form a) xs e in
    let rest = map-some (λ ys. first.0 ∷ ys) (each form parts) xs first.2 in
    subst (λ ys. list_all Q ys ≡ true) rest.2
    (both_true (fact a first.0 first.1 (left_true (P a) _ all)) (each-all form P Q fact parts rest.0 rest.1 (right_true (P a) _ all)))

items_formed : (tree : Json) (items : List Json) → as_list tree ≡ Some items → well_formed tree ≡ true → list_all well_formed items ≡ true
items_formed tree items is well = sym (well_formed-List items) ∙ ap well_formed (sym (List-as_list tree items is)) ∙ well

text_utf8 : (tree : Json) (text : List ℕ) → as_text tree ≡ Some text → well_formed tree ≡ true → is_utf8 text ≡ true
text_utf8 tree text is well = sym (well_formed-Text text) ∙ ap well_formed (sym (Text-as_text tree text is)) ∙ well

text_at-utf8 : (name : List ℕ) (members : List Member) (text : List ℕ) → text_at name members ≡ Some text → members_well_formed members ≡ true → is_utf8 text ≡ true
text_at-utf8 name members text e well =
    let tree = and_then-some as_text (find name members) text e in
    text_utf8 tree.0 text tree.2 (well_formed-find name members tree.0 tree.1 well)

texts_utf8 : (items : List Json) (texts : Texts) → texts_in items ≡ Some texts → list_all well_formed items ≡ true → list_all is_utf8 texts ≡ true
texts_utf8 [] texts e all = let none : [] ≡ texts = cc e in ap (list_all is_utf8) (sym none)
texts_utf8 (item ∷ items) texts e all =
    let first = and_then-some (λ (text : List ℕ). option_map (λ ts. text ∷ ts) (texts_in items)) (as_text item) texts e in
    let rest = map-some (λ (ts : Texts). first.0 ∷ ts) (texts_in items) texts first.2 in
    subst (λ ts. list_all is_utf8 ts ≡ true) rest.2
    (both_true (text_utf8 item first.0 first.1 (left_true (well_formed item) _ all)) (texts_utf8 items rest.0 rest.1 (right_true (well_formed item) _ all)))

mark_of-utf8 : (tree : Json) (mark : MarkEntry) → mark_of tree ≡ Some mark → well_formed tree ≡ true → mark_utf8 mark ≡ true
unfolding mark_of
mark_of-utf8 tree mark e well =
    let object = and_then-some mark_in (as_object tree) mark e in
    let typed = and_then-some (λ (mark_type : List ℕ). option_map (λ (text : List ℕ). let entry : MarkEntry = record { mark_type = mark_type; text = text } in entry) (text_at (codes "trust_mark") object.0))
    (text_at (codes "trust_mark_type") object.0) mark object.2 in
    let text = map-some (λ (text : List ℕ). let entry : MarkEntry = record { mark_type = typed.0; text = text } in entry) (text_at (codes "trust_mark") object.0) mark typed.2 in
    let formed = members_formed tree object.0 object.1 well in
    subst (λ m. mark_utf8 m ≡ true) text.2
    (both_true (text_at-utf8 _ object.0 typed.0 typed.1 formed) (text_at-utf8 _ object.0 text.0 text.1 formed))

marks_of-utf8 : (tree : Json) (marks : List MarkEntry) → marks_of tree ≡ Some marks → well_formed tree ≡ true → list_all mark_utf8 marks ≡ true
unfolding marks_of
marks_of-utf8 tree marks e well =
    let list = and_then-some (each mark_of) (as_list tree) marks e in
    each-all mark_of well_formed mark_utf8 mark_of-utf8 list.0 marks list.2 (items_formed tree list.0 list.1 well)

pub marks-utf8 : (own : Bool) (members : List Member) (marks : List MarkEntry) → marks_in own members ≡ Ok marks → members_well_formed members ≡ true → list_all mark_utf8 marks ≡ true
unfolding marks_in
marks-utf8 own members marks e well =
    read-fact (λ ms. list_all mark_utf8 ms ≡ true) own [] marks_of (codes "trust_marks") members marks refl
    (λ tree found says. marks_of-utf8 tree marks says (well_formed-find _ members tree found well)) e

-- a member of a well formed object
abbrev member_formed : Member → Bool
member_formed m = is_utf8 m.name && well_formed m.value

issuers_in-utf8 : (m : Member) (issuers : Issuers) → issuers_in m ≡ Some issuers → member_formed m ≡ true → issuers_utf8 issuers ≡ true
unfolding issuers_in
issuers_in-utf8 m issuers e well =
    let who = map-some (λ (who : Texts). let entry : Issuers = record { mark_type = m.name; who = who } in entry) (texts_of m.value) issuers e in
    let list = and_then-some texts_in (as_list m.value) who.0 who.1 in
    subst (λ i. issuers_utf8 i ≡ true) who.2
    (both_true (left_true (is_utf8 m.name) _ well) (texts_utf8 list.0 who.0 list.2 (items_formed m.value list.0 list.1 (right_true (is_utf8 m.name) _ well))))

issuers_of-utf8 : (tree : Json) (issuers : List Issuers) → issuers_of tree ≡ Some issuers → well_formed tree ≡ true → list_all issuers_utf8 issuers ≡ true
unfolding issuers_of
issuers_of-utf8 tree issuers e well =
    let object = and_then-some (each issuers_in) (as_object tree) issuers e in
    each-all issuers_in member_formed issuers_utf8 issuers_in-utf8 object.0 issuers object.2 (right_true (rising (map (λ m. m.name) object.0)) _ (members_formed tree object.0 object.1 well))

pub issuers-utf8 : (own : Bool) (members : List Member) (issuers : List Issuers) → mark_issuers_in own members ≡ Ok issuers → members_well_formed members ≡ true → list_all issuers_utf8 issuers ≡ true
unfolding mark_issuers_in
issuers-utf8 own members issuers e well =
    read-fact (λ is. list_all issuers_utf8 is ≡ true) own [] issuers_of (codes "trust_mark_issuers") members issuers refl
    (λ tree found says. issuers_of-utf8 tree issuers says (well_formed-find _ members tree found well)) e

abbrev type_utf8 : OwnerClaims → Bool
type_utf8 owner = is_utf8 owner.mark_type

owner_in-utf8 : (m : Member) (owner : OwnerClaims) → owner_in m ≡ Some owner → member_formed m ≡ true → type_utf8 owner ≡ true
unfolding owner_in
owner_in-utf8 m owner e well =
    let object = and_then-some (owner_with m.name) (as_object m.value) owner e in
    let sub = and_then-some _ (option_and_then identifier (find (codes "sub") object.0)) owner object.2 in
    let keys = map-some _ _ owner sub.2 in
    subst (λ o. type_utf8 o ≡ true) keys.2 (left_true (is_utf8 m.name) _ well)

owners_of-utf8 : (tree : Json) (owners : List OwnerClaims) → owners_of tree ≡ Some owners → well_formed tree ≡ true → list_all type_utf8 owners ≡ true
unfolding owners_of
owners_of-utf8 tree owners e well =
    let object = and_then-some (each owner_in) (as_object tree) owners e in
    each-all owner_in member_formed type_utf8 owner_in-utf8 object.0 owners object.2 (right_true (rising (map (λ m. m.name) object.0)) _ (members_formed tree object.0 object.1 well))

types_told : (owners : List Owner) → list_all type_utf8 (map told_owner owners) ≡ list_all (λ o. is_utf8 o.mark_type) owners
types_told [] = refl
types_told (o ∷ owners) = ap (λ b. is_utf8 o.mark_type && b) (types_told owners)

pub owners-utf8 : (own : Bool) (members : List Member) (owners : List Owner) → mark_owners_in own members ≡ Ok (map told_owner owners) → members_well_formed members ≡ true
    → list_all (λ o. is_utf8 o.mark_type) owners ≡ true
unfolding mark_owners_in
owners-utf8 own members owners e well =
    sym (types_told owners)
    ∙ read-fact (λ os. list_all type_utf8 os ≡ true) own [] owners_of (codes "trust_mark_owners") members (map told_owner owners) refl
    (λ tree found says. owners_of-utf8 tree (map told_owner owners) says (well_formed-find _ members tree found well)) e
