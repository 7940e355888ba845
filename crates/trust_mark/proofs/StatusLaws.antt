-- The tree of an answer has a text, and is read back as the answer.
use Rattle.std.proofs.Common.{◌≡◌, ◌<◌, ◌^◌, ℕ, pos, List, [], ◌∷◌, ◌++◌, codes, true, not, Some, Result, Ok, Err, IfOk, OnOk, refl, sym, ap, ◌∙◌, append_assoc, subst, rules}
use Rattle.std.proofs.lemmas.Bool.{lt-ltb}
use Rattle.std.proofs.lemmas.Str.{is_utf8-from_IsUtf8}
use Rattle.std.specs.Str.{IsUtf8}
use Rattle.fed_base.specs.Moments.{moment_limit}
use Rattle.fed_base.specs.declared.faults.Memory.{Memory as NoMemory}
use Rattle.fed_json.specs.declared.tree.Json.{Json, Int, Object, Text, the_lemmas}
use Rattle.fed_json.specs.declared.tree.Member.{Member}
use Rattle.fed_json.specs.Forms.{IsWhole, has_odd, in_bounds, well_formed, whole}
use Rattle.fed_json.specs.Members.{number_member, text_member}
use Rattle.fed_json.specs.Reading.{tree_in}
use Rattle.fed_json.proofs.Booleans.{both_true}
use Rattle.fed_json.proofs.Layers.{whole-Object}
use Rattle.entity_id.specs.Identifiers.{IsIdentifier}
use Rattle.jwk_set.proofs.WrittenKeys.{ascii, whole_text}
use Rattle.jws_form.specs.declared.compact.Compact.{Compact}
use Rattle.trust_mark.specs.Claims.{status_claims, status_type_name}
use Rattle.trust_mark.specs.Statuses.{answer_of, status_tree, status_word}
use Rattle.trust_mark.specs.declared.status.MarkStatus.{MarkStatus}
use Rattle.trust_mark.specs.declared.status.MarkStatus.TheVariants.{Active, Expired, Revoked, Invalid}
use Rattle.trust_mark.specs.declared.status.StatusAnswer.{StatusAnswer}
use Rattle.trust_mark.proofs.GrammarLaws.{status-only}

abbrev members : StatusAnswer → List Member
members a = number_member (codes "iat") a.iat ∷ text_member (codes "iss") a.iss ∷ text_member (codes "status") (status_word a.status) ∷ text_member (codes "trust_mark") a.trust_mark ∷ []

int_formed : (n : ℕ) → well_formed (Int (pos n)) ≡ in_bounds (pos n)
int_formed n = search (rules, the_lemmas)

int_even : (n : ℕ) → not (has_odd (Int (pos n))) ≡ true
int_even n = search (rules, the_lemmas)

whole_int : (n : ℕ) → n < 2 ^ 64 → whole (Int (pos n)) ≡ true
whole_int n small = both_true (int_formed n ∙ lt-ltb n (2 ^ 64) small) (int_even n)

whole_word : (s : MarkStatus) → whole (Text (status_word s)) ≡ true
whole_word Active = whole_text (codes "active") (ascii (codes "active") refl)
whole_word Expired = whole_text (codes "expired") (ascii (codes "expired") refl)
whole_word Revoked = whole_text (codes "revoked") (ascii (codes "revoked") refl)
whole_word Invalid = whole_text (codes "invalid") (ascii (codes "invalid") refl)

tree_whole : (a : StatusAnswer) → a.iat < 2 ^ 64 → IsUtf8 a.iss → IsUtf8 a.trust_mark → IsWhole (status_tree a)
unfolding status_tree
tree_whole a small iss text =
    whole-Object (members a)
    ∙ rw (
      whole_int a.iat small,
      whole_text a.iss (is_utf8-from_IsUtf8 a.iss iss),
      whole_word a.status,
      whole_text a.trust_mark (is_utf8-from_IsUtf8 a.trust_mark text),
      ascii (codes "iat") refl,
      ascii (codes "iss") refl,
      ascii (codes "status") refl,
      ascii (codes "trust_mark") refl,
    ) refl

tree_read : (a : StatusAnswer) → IsIdentifier a.iss → a.iat < moment_limit → (c : Compact) → c.typ ≡ Some status_type_name → tree_in c.payload ≡ Some (status_tree a) → status_claims c ≡ Ok a
unfolding status_tree
tree_read a iss small c typed payload = status-only c a (record {
  members = members a;
  payload = record { typed = typed; object = payload };
  iss = (refl, iss);
  iat = (refl, small);
  trust_mark = refl;
  status = refl;
})

-- the members that were added one after the other
pub three-added : {X E : Type 0} (r : Result X E) (start one two all : List Member) (a b c : Member) → one ≡ start ++ a ∷ [] → two ≡ one ++ b ∷ [] → OnOk r (all ≡ two ++ c ∷ [])
    → OnOk r (all ≡ start ++ a ∷ b ∷ c ∷ [])
three-added (Ok x) start one two all a b c first second third =
    third ∙ ap (λ ms. ms ++ c ∷ []) (second ∙ ap (λ ms. ms ++ b ∷ []) first) ∙ append_assoc (start ++ a ∷ []) (b ∷ []) (c ∷ []) ∙ append_assoc start (a ∷ []) (b ∷ c ∷ [])
three-added (Err e) start one two all a b c first second third = tt

pub tree_made : (x : StatusAnswer) (empty one all : List Member) (word : List ℕ) → empty ≡ [] → one ≡ empty ++ number_member (codes "iat") x.iat ∷ []
    → all ≡ one ++ text_member (codes "iss") x.iss ∷ text_member (codes "status") word ∷ text_member (codes "trust_mark") x.trust_mark ∷ [] → word ≡ status_word x.status → Object all ≡ status_tree x
unfolding status_tree
tree_made x empty one all word none timed rest said =
    ap Object (rest ∙ (λ i. (timed ∙ ap (λ ms. ms ++ number_member (codes "iat") x.iat ∷ []) none) i
    ++ text_member (codes "iss") x.iss ∷ text_member (codes "status") (said i) ∷ text_member (codes "trust_mark") x.trust_mark ∷ []))

-- ---- what is said of the tree that is answered

pub tree_answer : (r : Result Json NoMemory) (a : StatusAnswer) (iss text : List ℕ) → iss ≡ a.iss → text ≡ a.trust_mark
    → IfOk r (λ tree. tree ≡ status_tree (answer_of iss a.iat text a.status)) → IfOk r (λ tree. tree ≡ status_tree a)
tree_answer (Ok tree) a iss text same_iss same_text is = is ∙ (λ i. status_tree (answer_of (same_iss i) a.iat (same_text i) a.status))
tree_answer (Err e) a iss text same_iss same_text is = tt

pub whole_answer : (r : Result Json NoMemory) (a : StatusAnswer) → IfOk r (λ tree. tree ≡ status_tree a) → a.iat < 2 ^ 64 → IsUtf8 a.iss
    → IfOk r (λ tree. IsUtf8 a.trust_mark → IsWhole tree)
whole_answer (Ok tree) a is small iss = λ text. subst IsWhole (sym is) (tree_whole a small iss text)
whole_answer (Err e) a is small iss = tt

pub read_answer : (r : Result Json NoMemory) (a : StatusAnswer) → IfOk r (λ tree. tree ≡ status_tree a) → IsIdentifier a.iss
    → IfOk r (λ tree. a.iat < moment_limit → (c : Compact) → c.typ ≡ Some status_type_name → tree_in c.payload ≡ Some tree → status_claims c ≡ Ok a)
read_answer (Ok tree) a is iss = λ small c typed payload. tree_read a iss small c typed (payload ∙ ap Some is)
read_answer (Err e) a is iss = tt
