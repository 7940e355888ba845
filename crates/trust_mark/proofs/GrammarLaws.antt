-- Marks, delegations and answers are read exactly where the grammar says what they claim.
use Rattle.std.proofs.Common.{◌≡◌, ℕ, List, codes, bytes_eq, Bool, true, false, cond, Option, Some, None, Ok, refl, sym, ap, ◌∙◌, subst}
use Rattle.std.specs.Option.{ok_or}
use Rattle.fed_base.specs.Answers.{◌>>=◌}
use Rattle.fed_json.specs.declared.tree.Json.{Text}
use Rattle.fed_json.specs.declared.tree.Member.{Member}
use Rattle.fed_json.proofs.Order.{equal-bytes_eq}
use Rattle.jws_form.specs.declared.compact.Compact.{Compact}
use Rattle.entity_statement.specs.Forms.{identifier, moment}
use Rattle.entity_statement.proofs.Answers.{ok_or-ok, then-ok}
use Rattle.trust_mark.specs.Claims.{any_text, claim, claim_if_there, delegation_claims, delegation_in, delegation_of_tree, delegation_type_name, mark_claims, mark_in, mark_of_tree, mark_type_name, status_answer_in, status_at, status_claims, status_of_tree, status_type_name}
use Rattle.trust_mark.specs.Grammar.{IsDelegation, IsMark, IsStatusAnswer, MayNameText, NamesText, SaysCommon}
use Rattle.trust_mark.specs.Statuses.{status_of_word, status_word}
use Rattle.trust_mark.specs.declared.fault.MarkFault.TheVariants.{Shape}
use Rattle.trust_mark.specs.declared.mark.Mark.{Mark}
use Rattle.trust_mark.specs.declared.status.MarkStatus.{MarkStatus}
use Rattle.trust_mark.specs.declared.status.MarkStatus.TheVariants.{Active, Expired, Revoked, Invalid}
use Rattle.trust_mark.specs.declared.status.StatusAnswer.{StatusAnswer}
use Rattle.trust_mark.proofs.ClaimLaws.{entity-is, entity-of, moment_at-is, moment_at-of, moment_if_there-is, moment_if_there-of, text_at-is, text_at-of, text_if_there-is, text_if_there-of}
use Rattle.trust_mark.proofs.PayloadLaws.{read-is, read-of}

-- ---- the claims that marks and delegations have

delegation_in-is : (members : List Member) (m : Mark) → delegation_in members ≡ Ok m → SaysCommon members m × (m.delegation ≡ None)
unfolding delegation_in
delegation_in-is members m e =
    let iss = then-ok (claim (codes "iss") identifier members) _ m e in
    let sub = then-ok (claim (codes "sub") identifier members) _ m iss.2 in
    let typ = then-ok (claim (codes "trust_mark_type") any_text members) _ m sub.2 in
    let iat = then-ok (claim (codes "iat") moment members) _ m typ.2 in
    let exp = then-ok (claim_if_there (codes "exp") moment members) _ m iat.2 in
    let made : Mark = record { iss = iss.0; sub = sub.0; mark_type = typ.0; iat = iat.0; exp = exp.0; delegation = None } in
    let same : made ≡ m = cc (exp.2) in
    let says : SaysCommon members made = record {
      iss = entity-is (codes "iss") members iss.0 iss.1;
      sub = entity-is (codes "sub") members sub.0 sub.1;
      trust_mark_type = text_at-is (codes "trust_mark_type") members typ.0 typ.1;
      iat = moment_at-is (codes "iat") members iat.0 iat.1;
      exp = moment_if_there-is (codes "exp") members exp.0 exp.1;
    } in
    (subst (SaysCommon members) same says, ap (λ (n : Mark). n.delegation) (sym same))

delegation_in-of : (members : List Member) (m : Mark) → SaysCommon members m → m.delegation ≡ None → delegation_in members ≡ Ok m
unfolding delegation_in
delegation_in-of members m says none =
    let iss = entity-of (codes "iss") members m.iss says.iss in
    let sub = entity-of (codes "sub") members m.sub says.sub in
    let typ = text_at-of (codes "trust_mark_type") members m.mark_type says.trust_mark_type in
    let iat = moment_at-of (codes "iat") members m.iat says.iat in
    let exp = moment_if_there-of (codes "exp") members m.exp says.exp in
    let there = sym none in
    λ i. iss i >>= λ a. sub i >>= λ b. typ i >>= λ t. iat i >>= λ n. exp i >>= λ x.
    Ok (record { iss = a; sub = b; mark_type = t; iat = n; exp = x; delegation = there i })

-- ---- marks

-- the same claims with a delegation
abbrev with_delegation : Mark → Option (List ℕ) → Mark
with_delegation m d = record { iss = m.iss; sub = m.sub; mark_type = m.mark_type; iat = m.iat; exp = m.exp; delegation = d }

says_with : (members : List Member) (m : Mark) (d : Option (List ℕ)) → SaysCommon members m → SaysCommon members (with_delegation m d)
says_with members m d says = record { iss = says.iss; sub = says.sub; trust_mark_type = says.trust_mark_type; iat = says.iat; exp = says.exp }

mark_in-is : (members : List Member) (m : Mark) → mark_in members ≡ Ok m → SaysCommon members m × MayNameText (codes "delegation") members m.delegation
unfolding mark_in
mark_in-is members m e =
    let first = then-ok (delegation_in members) _ m e in
    let text = then-ok (claim_if_there (codes "delegation") any_text members) _ m first.2 in
    let same : with_delegation first.0 text.0 ≡ m = cc (text.2) in
    let says = (delegation_in-is members first.0 first.1).0 in (
      subst (SaysCommon members) same (says_with members first.0 text.0 says),
      subst (λ (n : Mark). MayNameText (codes "delegation") members n.delegation) same (text_if_there-is (codes "delegation") members text.0 text.1),
    )

mark_in-of : (members : List Member) (m : Mark) → SaysCommon members m → MayNameText (codes "delegation") members m.delegation → mark_in members ≡ Ok m
unfolding mark_in
mark_in-of members m says names =
    let first = delegation_in-of members (with_delegation m None) (says_with members m None says) refl in
    let text = text_if_there-of (codes "delegation") members m.delegation names in
    λ i. first i >>= λ n. text i >>= λ d. Ok (with_delegation n d)

pub mark-found : (c : Compact) (m : Mark) → mark_claims c ≡ Ok m → IsMark c m
unfolding mark_claims mark_of_tree
mark-found c m e =
    let read = read-is mark_type_name mark_in c m e in
    let says = mark_in-is read.0 m read.2 in
    record { members = read.0; payload = read.1; common = says.0; delegation = says.1 }

pub mark-only : (c : Compact) (m : Mark) → IsMark c m → mark_claims c ≡ Ok m
unfolding mark_claims mark_of_tree
mark-only c m is = read-of mark_type_name mark_in c is.members m is.payload (mark_in-of is.members m is.common is.delegation)

-- ---- delegations

pub delegation-found : (c : Compact) (m : Mark) → delegation_claims c ≡ Ok m → IsDelegation c m
unfolding delegation_claims delegation_of_tree
delegation-found c m e =
    let read = read-is delegation_type_name delegation_in c m e in
    let says = delegation_in-is read.0 m read.2 in
    record { members = read.0; payload = read.1; common = says.0; first_hand = says.1 }

pub delegation-only : (c : Compact) (m : Mark) → IsDelegation c m → delegation_claims c ≡ Ok m
unfolding delegation_claims delegation_of_tree
delegation-only c m is = read-of delegation_type_name delegation_in c is.members m is.payload (delegation_in-of is.members m is.common is.first_hand)

-- ---- answers on a mark's status

word_by : (word : List ℕ) (s : MarkStatus) (active expired revoked invalid : Bool) → (active ≡ true → word ≡ status_word Active) → (expired ≡ true → word ≡ status_word Expired)
    → (revoked ≡ true → word ≡ status_word Revoked) → (invalid ≡ true → word ≡ status_word Invalid)
    → cond active (Some Active) (cond expired (Some Expired) (cond revoked (Some Revoked) (cond invalid (Some Invalid) None))) ≡ Some s → word ≡ status_word s
word_by word s true b c d is_a is_e is_r is_i e = let same : Active ≡ s = cc e in is_a refl ∙ ap status_word same
word_by word s false true c d is_a is_e is_r is_i e = let same : Expired ≡ s = cc e in is_e refl ∙ ap status_word same
word_by word s false false true d is_a is_e is_r is_i e = let same : Revoked ≡ s = cc e in is_r refl ∙ ap status_word same
word_by word s false false false true is_a is_e is_r is_i e = let same : Invalid ≡ s = cc e in is_i refl ∙ ap status_word same
word_by word s false false false false is_a is_e is_r is_i e = cc e

word-is : (word : List ℕ) (s : MarkStatus) → status_of_word word ≡ Some s → word ≡ status_word s
word-is word s e =
    word_by word s (bytes_eq word (status_word Active)) (bytes_eq word (status_word Expired)) (bytes_eq word (status_word Revoked)) (bytes_eq word (status_word Invalid))
    (equal-bytes_eq word (status_word Active)) (equal-bytes_eq word (status_word Expired)) (equal-bytes_eq word (status_word Revoked)) (equal-bytes_eq word (status_word Invalid)) e

word-of : (s : MarkStatus) → status_of_word (status_word s) ≡ Some s
word-of Active = refl
word-of Expired = refl
word-of Revoked = refl
word-of Invalid = refl

status_at-is : (members : List Member) (s : MarkStatus) → status_at members ≡ Ok s → NamesText (codes "status") members (status_word s)
unfolding status_at
status_at-is members s e =
    let word = then-ok (claim (codes "status") any_text members) (λ w. ok_or (status_of_word w) (Shape (codes "status"))) s e in
    let meant = word-is word.0 s (ok_or-ok (status_of_word word.0) (Shape (codes "status")) s word.2) in
    text_at-is (codes "status") members word.0 word.1 ∙ ap (λ w. Some (Text w)) meant

status_at-of : (members : List Member) (s : MarkStatus) → NamesText (codes "status") members (status_word s) → status_at members ≡ Ok s
unfolding status_at
status_at-of members s names =
    ap (λ r. r >>= λ w. ok_or (status_of_word w) (Shape (codes "status"))) (text_at-of (codes "status") members (status_word s) names)
    ∙ ap (λ o. ok_or o (Shape (codes "status"))) (word-of s)

pub status-found : (c : Compact) (a : StatusAnswer) → status_claims c ≡ Ok a → IsStatusAnswer c a
unfolding status_claims status_of_tree status_answer_in
status-found c a e =
    let read = read-is status_type_name status_answer_in c a e in
    let members = read.0 in
    let iss = then-ok (claim (codes "iss") identifier members) _ a read.2 in
    let iat = then-ok (claim (codes "iat") moment members) _ a iss.2 in
    let text = then-ok (claim (codes "trust_mark") any_text members) _ a iat.2 in
    let status = then-ok (status_at members) _ a text.2 in
    let made : StatusAnswer = record { iss = iss.0; iat = iat.0; trust_mark = text.0; status = status.0 } in
    let same : made ≡ a = cc (status.2) in
    let is : IsStatusAnswer c made = record {
      members = members;
      payload = read.1;
      iss = entity-is (codes "iss") members iss.0 iss.1;
      iat = moment_at-is (codes "iat") members iat.0 iat.1;
      trust_mark = text_at-is (codes "trust_mark") members text.0 text.1;
      status = status_at-is members status.0 status.1;
    } in
    subst (IsStatusAnswer c) same is

pub status-only : (c : Compact) (a : StatusAnswer) → IsStatusAnswer c a → status_claims c ≡ Ok a
unfolding status_claims status_of_tree status_answer_in
status-only c a is =
    let iss = entity-of (codes "iss") is.members a.iss is.iss in
    let iat = moment_at-of (codes "iat") is.members a.iat is.iat in
    let text = text_at-of (codes "trust_mark") is.members a.trust_mark is.trust_mark in
    let status = status_at-of is.members a.status is.status in
    read-of status_type_name status_answer_in c is.members a is.payload
    (λ i. iss i >>= λ id. iat i >>= λ n. text i >>= λ t. status i >>= λ s. Ok (record { iss = id; iat = n; trust_mark = t; status = s }))
