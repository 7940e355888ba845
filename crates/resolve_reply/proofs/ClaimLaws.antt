-- The claims of a reply have a text.
use Rattle.std.proofs.Common.{◌≡◌, ◌<◌, ◌^◌, ℕ, pos, List, [], ◌∷◌, ◌++◌, map, codes, Bool, true, false, ◌&&◌, cond, not, Option, Some, None, refl, sym, ap, subst, ◌∙◌, rules}
use Rattle.std.specs.Prelude.{is_some, option_map, unwrap_or}
use Rattle.std.specs.List.{filter, list_all}
use Rattle.std.specs.Str.{IsUtf8, is_utf8}
use Rattle.std.proofs.lemmas.Bool.{lt-ltb}
use Rattle.std.proofs.lemmas.Str.{is_utf8-from_IsUtf8}
use Rattle.fed_base.specs.Values.{◌>>=◌}
use Rattle.fed_json.specs.declared.tree.Json.{Json, Int, Object, Text, List as ListOf, the_lemmas}
use Rattle.fed_json.specs.declared.tree.Member.{Member}
use Rattle.fed_json.specs.Forms.{IsWhole, has_odd, in_bounds, is_before, members_whole, rising, well_formed, whole}
use Rattle.fed_json.specs.Members.{number_member, text_member}
use Rattle.fed_json.specs.Reading.{member_of}
use Rattle.fed_json.specs.Trees.{as_object, as_text, each, find, object_members, texts_of}
use Rattle.fed_json.proofs.Accessors.{as_list-List, as_object-Object, as_text-Text, whole-members}
use Rattle.fed_json.proofs.Booleans.{both_true, left_true, right_true}
use Rattle.fed_json.proofs.Layers.{whole-List, whole-Object, whole-Text}
use Rattle.fed_json.proofs.Names.{rising-skip, rising-tail}
use Rattle.jwk_set.proofs.WrittenKeys.{ascii, whole_text}
use Rattle.sealed.specs.Sealing.{IsObject}
use Rattle.entity_statement.specs.Claims.{Identifier, mark_utf8}
use Rattle.entity_statement.specs.declared.marks.MarkEntry.{MarkEntry}
use Rattle.resolve_reply.specs.declared.said.Said.{Said}
use Rattle.resolve_reply.specs.Replies.{IsWritable, SaysReply, chain_of, common_members, cut_to, is_unmarked, is_wanted, mark_tree, marks_member, reply_claims, resealed_claims, with_end}

int_formed : (n : ℕ) → well_formed (Int (pos n)) ≡ in_bounds (pos n)
int_formed n = search (rules, the_lemmas)

int_even : (n : ℕ) → not (has_odd (Int (pos n))) ≡ true
int_even n = search (rules, the_lemmas)

whole_int : (n : ℕ) → n < 2 ^ 64 → whole (Int (pos n)) ≡ true
whole_int n small = both_true (int_formed n ∙ lt-ltb n (2 ^ 64) small) (int_even n)

-- ---- lists

whole_texts : (texts : List (List ℕ)) → list_all is_utf8 texts ≡ true → list_all whole (map Text texts) ≡ true
whole_texts [] all = refl
whole_texts (t ∷ ts) all = both_true (whole-Text t ∙ left_true (is_utf8 t) _ all) (whole_texts ts (right_true (is_utf8 t) _ all))

whole_mark : (entry : MarkEntry) → mark_utf8 entry ≡ true → whole (mark_tree entry) ≡ true
whole_mark entry utf8 =
    whole-Object (text_member (codes "trust_mark") entry.text ∷ text_member (codes "trust_mark_type") entry.mark_type ∷ [])
    ∙ rw (
      whole_text entry.text (right_true (is_utf8 entry.mark_type) _ utf8),
      whole_text entry.mark_type (left_true (is_utf8 entry.mark_type) _ utf8),
      ascii (codes "trust_mark") refl,
      ascii (codes "trust_mark_type") refl,
    ) refl

whole_entries : (entries : List MarkEntry) → list_all mark_utf8 entries ≡ true → list_all whole (map mark_tree entries) ≡ true
whole_entries [] all = refl
whole_entries (e ∷ es) all = both_true (whole_mark e (left_true (mark_utf8 e) _ all)) (whole_entries es (right_true (mark_utf8 e) _ all))

-- ---- members

module _ (exp iat : ℕ) (iss sub : List ℕ) (metadata chain : Json) (exp_small : exp < 2 ^ 64) (iat_small : iat < 2 ^ 64) (iss_utf8 : is_utf8 iss ≡ true) (sub_utf8 : is_utf8 sub ≡ true) (metadata_whole : whole metadata ≡ true)
    (chain_whole : whole chain ≡ true) where
  abbrev common : List Member
  common =
      number_member (codes "exp") exp ∷ number_member (codes "iat") iat ∷ text_member (codes "iss") iss ∷ member_of (codes "metadata") metadata ∷ text_member (codes "sub") sub ∷ member_of (codes "trust_chain") chain ∷ []

  unmarked_whole : members_whole common ≡ true
  unmarked_whole = rw (
    whole_int exp exp_small,
    whole_int iat iat_small,
    whole_text iss iss_utf8,
    metadata_whole,
    whole_text sub sub_utf8,
    chain_whole,
    ascii (codes "exp") refl,
    ascii (codes "iat") refl,
    ascii (codes "iss") refl,
    ascii (codes "metadata") refl,
    ascii (codes "sub") refl,
    ascii (codes "trust_chain") refl,
  ) refl

  marked_whole : (marks : Json) → whole marks ≡ true → members_whole (common ++ member_of (codes "trust_marks") marks ∷ []) ≡ true
  marked_whole marks marks_whole = rw (
    whole_int exp exp_small,
    whole_int iat iat_small,
    whole_text iss iss_utf8,
    metadata_whole,
    whole_text sub sub_utf8,
    chain_whole,
    marks_whole,
    ascii (codes "exp") refl,
    ascii (codes "iat") refl,
    ascii (codes "iss") refl,
    ascii (codes "metadata") refl,
    ascii (codes "sub") refl,
    ascii (codes "trust_chain") refl,
    ascii (codes "trust_marks") refl,
  ) refl

  pub members_of_whole : (entries : List MarkEntry) → list_all mark_utf8 entries ≡ true → members_whole (common ++ marks_member entries) ≡ true
  members_of_whole [] all = unmarked_whole
  members_of_whole (e ∷ es) all = marked_whole (ListOf (map mark_tree (e ∷ es))) (whole-List (map mark_tree (e ∷ es)) ∙ whole_entries (e ∷ es) all)

pub claims-whole : (iss : Identifier) (said : Said) → IsWritable said → said.exp < 2 ^ 64 → said.iat < 2 ^ 64 → IsUtf8 iss → IsUtf8 said.sub → IsWhole (reply_claims iss said)
unfolding reply_claims
claims-whole iss said writable exp iat iss_utf8 sub_utf8 =
    whole-Object (common_members iss said ++ marks_member said.marks)
    ∙ members_of_whole said.exp said.iat iss said.sub said.metadata (ListOf (map Text said.chain)) exp iat (is_utf8-from_IsUtf8 iss iss_utf8) (is_utf8-from_IsUtf8 said.sub sub_utf8) writable.metadata
    (whole-List (map Text said.chain) ∙ whole_texts said.chain writable.chain) said.marks writable.marks

pub claims-object : (iss : Identifier) (said : Said) → IsObject (reply_claims iss said)
unfolding reply_claims
claims-object iss said = ap is_some (as_object-Object (common_members iss said ++ marks_member said.marks))

-- ---- metadata

pub cut-none : (types : List (List ℕ)) (metadata : Json) → types ≡ [] → cut_to types metadata ≡ metadata
unfolding cut_to
cut-none types metadata none = rw none refl

pub cut-some : (types : List (List ℕ)) (metadata : Json) → (types ≡ [] → ⊥) → cut_to types metadata ≡ Object (filter (is_wanted types) (object_members metadata))
unfolding cut_to
cut-some [] metadata some = absurd (some refl)
cut-some (t ∷ types) metadata some = refl

-- the names of some members
abbrev names_of : List Member → List (List ℕ)
names_of ms = map (λ (m : Member). m.name) ms

behind-kept : (b : Bool) (a : List ℕ) (m : Member) (kept : List Member) → is_before a m.name ≡ true → rising (m.name ∷ names_of kept) ≡ true → rising (a ∷ names_of kept) ≡ true
    → rising (a ∷ names_of (cond b (m ∷ kept) kept)) ≡ true
behind-kept true a m kept before here skipped = both_true before here
behind-kept false a m kept before here skipped = skipped

-- the names of some of the members rise where those of all do
kept-rising : (p : Member → Bool) (a : List ℕ) (ms : List Member) → rising (a ∷ names_of ms) ≡ true → rising (a ∷ names_of (filter p ms)) ≡ true
kept-rising p a [] up = refl
kept-rising p a (m ∷ ms) up =
    behind-kept (p m) a m (filter p ms) (left_true (is_before a m.name) _ up) (kept-rising p m.name ms (right_true (is_before a m.name) _ up)) (kept-rising p a ms (rising-skip a m.name (names_of ms) up))

first-kept : (b : Bool) (m : Member) (kept : List Member) → rising (m.name ∷ names_of kept) ≡ true → rising (names_of kept) ≡ true → rising (names_of (cond b (m ∷ kept) kept)) ≡ true
first-kept true m kept here skipped = here
first-kept false m kept here skipped = skipped

all-rising : (p : Member → Bool) (ms : List Member) → rising (names_of ms) ≡ true → rising (names_of (filter p ms)) ≡ true
all-rising p [] up = refl
all-rising p (m ∷ ms) up = first-kept (p m) m (filter p ms) (kept-rising p m.name ms up) (all-rising p ms (rising-tail m.name (names_of ms) up))

one-kept : (b : Bool) (q : Member → Bool) (m : Member) (kept : List Member) → q m ≡ true → list_all q kept ≡ true → list_all q (cond b (m ∷ kept) kept) ≡ true
one-kept true q m kept here rest = both_true here rest
one-kept false q m kept here rest = rest

kept-all : (p q : Member → Bool) (ms : List Member) → list_all q ms ≡ true → list_all q (filter p ms) ≡ true
kept-all p q [] all = refl
kept-all p q (m ∷ ms) all = one-kept (p m) q m (filter p ms) (left_true (q m) _ all) (kept-all p q ms (right_true (q m) _ all))

-- some members of a whole object make a whole object
kept-whole : (p : Member → Bool) (ms : List Member) → members_whole ms ≡ true → IsWhole (Object (filter p ms))
kept-whole p ms members =
    whole-Object (filter p ms)
    ∙ both_true (all-rising p ms (left_true (rising (names_of ms)) _ members))
    (kept-all p (λ m. is_utf8 m.name && whole m.value) ms (right_true (rising (names_of ms)) _ members))

members-whole : (metadata : Json) (o : Option (List Member)) → as_object metadata ≡ o → IsWhole metadata → members_whole (unwrap_or o []) ≡ true
members-whole metadata None is good = refl
members-whole metadata (Some ms) is good = whole-members metadata ms good is

pub cut-whole : (types : List (List ℕ)) (metadata : Json) → IsWhole metadata → IsWhole (Object (filter (is_wanted types) (object_members metadata)))
cut-whole types metadata good = kept-whole (is_wanted types) (object_members metadata) (members-whole metadata (as_object metadata) refl good)

-- ---- the tree that was made

pub claims-made : (iss : Identifier) (said : Said) (text sub : List ℕ) (first second third fourth all : List Member) (m : Member) (chain : Json) → text ≡ iss → sub ≡ said.sub
    → first ≡ number_member (codes "exp") said.exp ∷ number_member (codes "iat") said.iat ∷ text_member (codes "iss") text ∷ [] → second ≡ first ++ member_of (codes "metadata") said.metadata ∷ []
    → m ≡ text_member (codes "sub") sub → third ≡ second ++ m ∷ [] → chain ≡ ListOf (map Text said.chain) → fourth ≡ third ++ member_of (codes "trust_chain") chain ∷ [] → all ≡ fourth ++ marks_member said.marks
    → Object all ≡ reply_claims iss said
unfolding reply_claims
claims-made iss said text sub first second third fourth all m chain same_iss same_sub one two named three listed four five =
    let about : m ≡ text_member (codes "sub") said.sub = named ∙ ap (text_member (codes "sub")) same_sub in
    ap Object (
    five
    ∙ ap (λ ms. ms ++ marks_member said.marks) (
    four
    ∙ ap (λ ms. ms ++ member_of (codes "trust_chain") chain ∷ []) (
    three ∙ ap (λ ms. ms ++ m ∷ []) (two ∙ ap (λ ms. ms ++ member_of (codes "metadata") said.metadata ∷ []) one)
    )
    )
    )
    ∙ (λ i. Object ((
    number_member (codes "exp") said.exp
    ∷ number_member (codes "iat") said.iat
    ∷ text_member (codes "iss") (same_iss i)
    ∷ member_of (codes "metadata") said.metadata
    ∷ about i
    ∷ member_of (codes "trust_chain") (listed i)
    ∷ []
    ) ++ marks_member said.marks))

-- ---- claims that are sealed anew

members-are : (ms : List Member) → object_members (Object ms) ≡ ms
members-are ms = ap (λ o. unwrap_or o []) (as_object-Object ms)

renewed : (iss : Identifier) (said : Said) (exp : ℕ) (marks entries : List MarkEntry) → said.marks ≡ entries
    → map (with_end exp) (filter is_unmarked (common_members iss said ++ marks_member entries)) ++ marks_member marks ≡ common_members iss (record said { exp = exp; marks = marks }) ++ marks_member marks
renewed iss said exp marks [] are = refl
renewed iss said exp marks (e ∷ es) are = refl

pub resealed : (iss : Identifier) (said : Said) (exp : ℕ) (marks : List MarkEntry) → resealed_claims (reply_claims iss said) exp marks ≡ reply_claims iss (record said { exp = exp; marks = marks })
unfolding resealed_claims reply_claims
resealed iss said exp marks =
    ap (λ ms. Object (map (with_end exp) (filter is_unmarked ms) ++ marks_member marks)) (members-are (common_members iss said ++ marks_member said.marks))
    ∙ ap Object (renewed iss said exp marks said.marks refl)

pub resealed-whole : (claims : Json) (exp : ℕ) (marks : List MarkEntry) → SaysReply claims → exp < 2 ^ 64 → list_all mark_utf8 marks ≡ true → IsWhole (resealed_claims claims exp marks)
resealed-whole claims exp marks says less utf8 =
    subst IsWhole (sym (ap (λ c. resealed_claims c exp marks) says.claims_are ∙ resealed says.iss says.said exp marks))
    (claims-whole says.iss (record says.said { exp = exp; marks = marks })
    (record { metadata = says.writable.metadata; chain = says.writable.chain; marks = utf8 }) less says.iat says.iss_utf8 says.sub_utf8)

pub resealed-object : (claims : Json) (exp : ℕ) (marks : List MarkEntry) → IsObject (resealed_claims claims exp marks)
unfolding resealed_claims
resealed-object claims exp marks = ap is_some (as_object-Object (map (with_end exp) (filter is_unmarked (object_members claims)) ++ marks_member marks))

pub resealed-made : (claims : Json) (exp : ℕ) (marks : List MarkEntry) (kept all : List Member) → kept ≡ map (with_end exp) (filter is_unmarked (object_members claims)) → all ≡ kept ++ marks_member marks
    → Object all ≡ resealed_claims claims exp marks
unfolding resealed_claims
resealed-made claims exp marks kept all one two = ap Object (two ∙ ap (λ ms. ms ++ marks_member marks) one)

-- ---- the chain

each-text : (texts : List (List ℕ)) → each as_text (map Text texts) ≡ Some texts
each-text [] = refl
each-text (t ∷ ts) = rw (as_text-Text t, each-text ts) refl

said-texts : (texts : List (List ℕ)) → texts_of (ListOf (map Text texts)) ≡ Some texts
said-texts texts = rw (as_list-List (map Text texts)) (each-text texts)

pub chain-said : (iss : Identifier) (said : Said) → chain_of (reply_claims iss said) ≡ Some said.chain
unfolding chain_of reply_claims
chain-said iss said = ap (λ ms. find (codes "trust_chain") ms >>= texts_of) (members-are (common_members iss said ++ marks_member said.marks)) ∙ said-texts said.chain
