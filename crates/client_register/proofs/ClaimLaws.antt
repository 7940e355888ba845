-- The claims of a registration are an object that has a text.
use Rattle.std.proofs.Common.{◌≡◌, ◌<◌, ◌^◌, ℕ, pos, List, [], ◌∷◌, ◌++◌, map, codes, bytes_eq, Bool, true, false, ◌&&◌, cond, not, Option, Some, Result, Ok, Err, append_assoc, refl, ap, ◌∙◌, rules}
use Rattle.std.specs.Prelude.{OnOk, is_some, unwrap_or}
use Rattle.std.specs.List.{list_all}
use Rattle.std.specs.Str.{IsUtf8, is_utf8}
use Rattle.std.proofs.lemmas.Bool.{lt-ltb}
use Rattle.std.proofs.lemmas.Str.{is_utf8-from_IsUtf8}
use Rattle.fed_json.specs.declared.tree.Json.{Json, Int, Object, Text, List as ListOf, the_lemmas}
use Rattle.fed_json.specs.declared.tree.Member.{Member}
use Rattle.fed_json.specs.Forms.{IsWhole, has_odd, in_bounds, members_whole, rising, well_formed, whole}
use Rattle.fed_json.specs.Members.{number_member, text_member}
use Rattle.fed_json.specs.Reading.{member_of}
use Rattle.fed_json.specs.Trees.{find, object_members}
use Rattle.fed_json.proofs.Accessors.{as_object-Object}
use Rattle.fed_json.proofs.Booleans.{both_true, left_true, right_true}
use Rattle.fed_json.proofs.Layers.{whole-List, whole-Object, whole-Text}
use Rattle.jwk_set.proofs.WrittenKeys.{ascii, whole_text}
use Rattle.policy_apply.proofs.Walking.{object_members-whole}
use Rattle.sealed.specs.Sealing.{IsObject}
use Rattle.entity_statement.specs.Claims.{Identifier}
use Rattle.client_register.specs.declared.registration.Registration.{Registration}
use Rattle.client_register.specs.Registrations.{party_type, registration_claims}

int_formed : (n : ℕ) → well_formed (Int (pos n)) ≡ in_bounds (pos n)
int_formed n = search (rules, the_lemmas)

int_even : (n : ℕ) → not (has_odd (Int (pos n))) ≡ true
int_even n = search (rules, the_lemmas)

whole_int : (n : ℕ) → n < 2 ^ 64 → whole (Int (pos n)) ≡ true
whole_int n small = both_true (int_formed n ∙ lt-ltb n (2 ^ 64) small) (int_even n)

whole_texts : (texts : List (List ℕ)) → list_all is_utf8 texts ≡ true → list_all whole (map Text texts) ≡ true
whole_texts [] all = refl
whole_texts (t ∷ ts) all = both_true (whole-Text t ∙ left_true (is_utf8 t) _ all) (whole_texts ts (right_true (is_utf8 t) _ all))

-- metadata of one type
whole_type : (party : Json) → whole party ≡ true → whole (Object (member_of party_type party ∷ [])) ≡ true
whole_type party good = whole-Object (member_of party_type party ∷ []) ∙ rw (good, ascii party_type refl) refl

module _ (exp iat : ℕ) (iss sub anchor : List ℕ) (metadata chain : Json) where
  abbrev members : List Member
  members =
      text_member (codes "client_id") sub
      ∷ number_member (codes "exp") exp
      ∷ number_member (codes "iat") iat
      ∷ text_member (codes "iss") iss
      ∷ member_of (codes "metadata") metadata
      ∷ text_member (codes "sub") sub
      ∷ text_member (codes "trust_anchor") anchor
      ∷ member_of (codes "trust_chain") chain
      ∷ []

  whole_members : exp < 2 ^ 64 → iat < 2 ^ 64 → is_utf8 iss ≡ true → is_utf8 sub ≡ true → is_utf8 anchor ≡ true → whole metadata ≡ true → whole chain ≡ true → members_whole members ≡ true
  whole_members exp_small iat_small iss_utf8 sub_utf8 anchor_utf8 metadata_whole chain_whole = rw (
    whole_int exp exp_small,
    whole_int iat iat_small,
    whole_text iss iss_utf8,
    whole_text sub sub_utf8,
    whole_text anchor anchor_utf8,
    metadata_whole,
    chain_whole,
    ascii (codes "client_id") refl,
    ascii (codes "exp") refl,
    ascii (codes "iat") refl,
    ascii (codes "iss") refl,
    ascii (codes "metadata") refl,
    ascii (codes "sub") refl,
    ascii (codes "trust_anchor") refl,
    ascii (codes "trust_chain") refl,
  ) refl

-- the claims have a text where the parameters and the chain's texts do
pub claims-whole : (iss anchor : Identifier) (r : Registration) → IsWhole r.party → list_all is_utf8 r.chain ≡ true → r.exp < 2 ^ 64 → r.iat < 2 ^ 64 → IsUtf8 iss → IsUtf8 r.sub → IsUtf8 anchor
    → IsWhole (registration_claims iss anchor r)
unfolding registration_claims
claims-whole iss anchor r party chain exp iat iss_utf8 sub_utf8 anchor_utf8 =
    whole-Object (members r.exp r.iat iss r.sub anchor (Object (member_of party_type r.party ∷ [])) (ListOf (map Text r.chain)))
    ∙ whole_members r.exp r.iat iss r.sub anchor (Object (member_of party_type r.party ∷ [])) (ListOf (map Text r.chain)) exp iat (is_utf8-from_IsUtf8 iss iss_utf8) (is_utf8-from_IsUtf8 r.sub sub_utf8)
    (is_utf8-from_IsUtf8 anchor anchor_utf8) (whole_type r.party party) (whole-List (map Text r.chain) ∙ whole_texts r.chain chain)

pub claims-object : (iss anchor : Identifier) (r : Registration) → IsObject (registration_claims iss anchor r)
unfolding registration_claims
claims-object iss anchor r = ap is_some (as_object-Object (members r.exp r.iat iss r.sub anchor (Object (member_of party_type r.party ∷ [])) (ListOf (map Text r.chain))))

-- they say until when
pub claims-exp : (iss anchor : Identifier) (r : Registration) → find (codes "exp") (object_members (registration_claims iss anchor r)) ≡ Some (Int (pos r.exp))
unfolding registration_claims
claims-exp iss anchor r =
    ap (λ o. find (codes "exp") (unwrap_or o [])) (as_object-Object (members r.exp r.iat iss r.sub anchor (Object (member_of party_type r.party ∷ [])) (ListOf (map Text r.chain))))

-- the tree that was made of parts
pub claims-made : (iss anchor : Identifier) (r : Registration) (first second all : List Member) (metadata : Json)
    → first ≡ text_member (codes "client_id") r.sub ∷ number_member (codes "exp") r.exp ∷ number_member (codes "iat") r.iat ∷ text_member (codes "iss") iss ∷ []
    → metadata ≡ Object (member_of party_type r.party ∷ []) → second ≡ first ++ member_of (codes "metadata") metadata ∷ []
    → all ≡ second ++ (text_member (codes "sub") r.sub ∷ text_member (codes "trust_anchor") anchor ∷ member_of (codes "trust_chain") (ListOf (map Text r.chain)) ∷ []) → Object all ≡ registration_claims iss anchor r
unfolding registration_claims
claims-made iss anchor r first second all metadata one two three four = rw (four, three, two, one) refl

-- the members that tell the chain, added one by one
pub chain-added : {X E : Type 0} (result : Result X E) (sub anchor : Identifier) (chain : List (List ℕ)) (sub_text anchor_text : List ℕ) (old first second new : List Member) (m n : Member) (listed : Json)
    → sub_text ≡ sub → anchor_text ≡ anchor → m ≡ text_member (codes "sub") sub_text → first ≡ old ++ m ∷ [] → n ≡ text_member (codes "trust_anchor") anchor_text → second ≡ first ++ n ∷ []
    → listed ≡ ListOf (map Text chain) → OnOk result (new ≡ second ++ member_of (codes "trust_chain") listed ∷ [])
    → OnOk result (new ≡ old ++ (text_member (codes "sub") sub ∷ text_member (codes "trust_anchor") anchor ∷ member_of (codes "trust_chain") (ListOf (map Text chain)) ∷ []))
chain-added (Err e) sub anchor chain sub_text anchor_text old first second new m n listed a b one two three four five six = tt
chain-added (Ok x) sub anchor chain sub_text anchor_text old first second new m n listed a b one two three four five six =
    six
    ∙ (λ i. (four ∙ (λ j. two j ++ n ∷ [])) i ++ member_of (codes "trust_chain") (five i) ∷ [])
    ∙ (λ i. ((old ++ (one ∙ ap (text_member (codes "sub")) a) i ∷ []) ++ (three ∙ ap (text_member (codes "trust_anchor")) b) i ∷ []) ++ member_of (codes "trust_chain") (ListOf (map Text chain)) ∷ [])
    ∙ ap (λ ms. ms ++ member_of (codes "trust_chain") (ListOf (map Text chain)) ∷ []) (append_assoc old (text_member (codes "sub") sub ∷ []) (text_member (codes "trust_anchor") anchor ∷ []))
    ∙ append_assoc old (text_member (codes "sub") sub ∷ text_member (codes "trust_anchor") anchor ∷ []) (member_of (codes "trust_chain") (ListOf (map Text chain)) ∷ [])

-- ---- a member that is found

cond-whole : (b : Bool) (x : Json) (o : Option Json) (y : Json) → whole x ≡ true → (o ≡ Some y → whole y ≡ true) → cond b (Some x) o ≡ Some y → whole y ≡ true
cond-whole true x o y good rest is = let same : x ≡ y = cc is in rw (← same) good
cond-whole false x o y good rest is = rest is

found-whole : (name : List ℕ) (ms : List Member) (found : Json) → list_all (λ m. is_utf8 m.name && whole m.value) ms ≡ true → find name ms ≡ Some found → whole found ≡ true
found-whole name [] found all is = cc is
found-whole name (m ∷ ms) found all is =
    cond-whole (bytes_eq m.name name) m.value (find name ms) found (right_true (is_utf8 m.name) _ (left_true (is_utf8 m.name && whole m.value) _ all))
    (found-whole name ms found (right_true (is_utf8 m.name && whole m.value) _ all)) is

-- the value of a member of a whole tree has a text
pub member-whole : (tree : Json) (name : List ℕ) (found : Json) → IsWhole tree → find name (object_members tree) ≡ Some found → IsWhole found
member-whole tree name found good is = found-whole name (object_members tree) found (right_true (rising (map (λ (m : Member). m.name) (object_members tree))) _ (object_members-whole tree good)) is
