-- What is issued, read and checked as a chain.
use Rattle.std.proofs.Common.{◌≡◌, ◌<◌, ◌≤◌, ◌⊎◌, inl, inr, ℕ, zero, suc, List, [], ◌∷◌, length, Some, refl, sym, ap, ◌∙◌, subst, arith}
use Rattle.std.specs.Prelude.{Option, is_some, option_map, slice_get, slice_index_or}
use Rattle.std.specs.Option.{option_map_or}
use Rattle.std.proofs.lemmas.Bool.{cases_lt}
use Rattle.std.proofs.lemmas.List.{length-map}
use Rattle.std.proofs.lemmas.Option.{get_or_from_slice_get, slice_get-map, slice_get_within}
use Rattle.fed_base.specs.Places.{FailsFirst}
use Rattle.jwk_set.specs.declared.jwk.Jwk.{Jwk}
use Rattle.sealed.specs.Seals.{IsSealedBy}
use Rattle.entity_statement.specs.Claims.{Claims}
use Rattle.chain_check.specs.declared.reason.Reason.{Reason}
use Rattle.chain_check.specs.declared.reason.Reason.TheVariants.{Form, Names, Times, Signature, PathLength, Name, Conflict, Policy}
use Rattle.chain_check.specs.declared.verdict.Verdict.TheVariants.{Refused}
use Rattle.chain_check.specs.Chains.{LosesForm, ReadsAt, max_statements, statements_of}
use Rattle.chain_check.specs.Names.{HasNames, LosesNames, NamesFit}
use Rattle.chain_check.specs.Resolving.{FailsToResolve}
use Rattle.chain_check.specs.Signatures.{CurrentAt, SignedAt, keys_at, superior_keys}
use Rattle.chain_check.specs.Verdicts.{IsVerdictOn}
use Rattle.authority_core.specs.Issues.{AreIssues, IsIssue, IsNoLength, IsUnnamed, Issue, MayBeRefused, NamesSigner, case_by, issue_claims, issue_text, said_by, texts_of}

-- ---- the issue at a place

pub issue-at : (issues : List Issue) (j : ℕ) (issue : Issue) → AreIssues issues → slice_get issues j ≡ Some issue → IsIssue issue
issue-at [] j issue are e = cc e
issue-at (x ∷ rest) zero issue are e = let same : x ≡ issue = cc e in subst IsIssue same are.0
issue-at (x ∷ rest) (suc j) issue are e = issue-at rest j issue are.1 e

issue-there : (issues : List Issue) (j : ℕ) → j < length issues → (issue : Issue) × (slice_get issues j ≡ Some issue)
issue-there [] j short = absurd (omega arith)
issue-there (x ∷ rest) zero short = (x, refl)
issue-there (x ∷ rest) (suc j) short = issue-there rest j (omega arith)

text-there : (issues : List Issue) (j : ℕ) (issue : Issue) → slice_get issues j ≡ Some issue → slice_get (texts_of issues) j ≡ Some issue.text
text-there issues j issue e = slice_get-map issue_text issues j ∙ ap (option_map issue_text) e

claims-there : (issues : List Issue) (j : ℕ) (issue : Issue) → slice_get issues j ≡ Some issue → slice_get (said_by issues) j ≡ Some issue.claims
claims-there issues j issue e = slice_get-map issue_claims issues j ∙ ap (option_map issue_claims) e

length-said : (issues : List Issue) → length (said_by issues) ≡ length issues
length-said issues = length-map issues issue_claims

length-texts : (issues : List Issue) → length (texts_of issues) ≡ length issues
length-texts issues = length-map issues issue_text

-- ---- all are read

pub issues-read : (issues : List Issue) → AreIssues issues → statements_of (texts_of issues) ≡ said_by issues
unfolding statements_of
issues-read [] are = refl
issues-read (x ∷ rest) are = rw are.0.reads (ap (λ l. x.claims ∷ l) (issues-read rest are.1))

reads-at : (issues : List Issue) (j : ℕ) → AreIssues issues → j < max_statements → j < length issues → ReadsAt (texts_of issues) j
reads-at issues j are near short =
    let there = issue-there issues j short in
    record { near = near; text = there.0.text; there = text-there issues j there.0 there.1; reads = ap is_some (issue-at issues j there.0 are there.1).reads }

-- the place is that after 14, or there is none at all
module _ (issues : List Issue) (place : ℕ) (are : AreIssues issues) (loses : LosesForm (texts_of issues) place) where
  form-within : place < length issues → (place < max_statements) ⊎ (max_statements ≤ place) → (max_statements < place) ⊎ (place ≤ max_statements) → IsNoLength (length issues) place
  form-within short (inl near) at = absurd (loses.here (reads-at issues place are near short))
  form-within short (inr far) (inl past) = absurd (omega (arith, (loses.before max_statements past).near))
  form-within short (inr far) (inr at) = inr (omega (arith, short, far), omega (arith, far, at))

  form-at : (place < length issues) ⊎ (length issues ≤ place) → IsNoLength (length issues) place
  form-at (inl short) = form-within short (cases_lt place max_statements) (cases_lt max_statements place)
  form-at (inr past) = let same = length-texts issues in let within = loses.within in inl (omega (arith, same, within, past), omega (arith, same, within, past))

  pub form-only : IsNoLength (length issues) place
  form-only = form-at (cases_lt place (length issues))

-- ---- each signature holds under keys that name its signer

keys-there : (issues : List Issue) (issue : Issue) → slice_get issues 0 ≡ Some issue → keys_at (said_by issues) 0 [] ≡ issue.claims.keys
keys-there issues issue e = ap (λ (o : Option Claims). option_map_or (λ s. s.keys) o []) (claims-there issues 0 issue e)

-- the leaf's is a configuration by its names
leaf-own : (issues : List Issue) (issue : Issue) (anchor : List ℕ) → HasNames (said_by issues) anchor → slice_get issues 0 ≡ Some issue → issue.claims.iss ≡ issue.claims.sub
leaf-own issues issue anchor names e =
    let there = claims-there issues 0 issue e in
    let short = slice_get_within issues 0 issue e in
    let fit : NamesFit (said_by issues) anchor 0 = names 0 (omega (arith, length-said issues, short)) in
    let own = fit.kind.1 (inl refl) in
    ap (λ (o : Option Claims). option_map_or (λ s. s.iss) o []) (sym there) ∙ own ∙ ap (λ (o : Option Claims). option_map_or (λ s. s.sub) o []) there

index-there : (texts : List (List ℕ)) (j : ℕ) (text : List ℕ) → slice_get texts j ≡ Some text → slice_index_or texts j [] ≡ text
index-there texts j text e = get_or_from_slice_get texts j text [] e

signed-named : (issues : List Issue) (anchor : List ℕ) (keys : List Jwk) (j : ℕ) (issue : Issue) → AreIssues issues → HasNames (said_by issues) anchor
    → slice_get issues j ≡ Some issue → NamesSigner issue.signer (superior_keys (said_by issues) keys j) → SignedAt (texts_of issues) (said_by issues) keys j
signed-named issues anchor keys j issue are names there named =
    let is = issue-at issues j issue are there in
    let text = index-there (texts_of issues) j issue.text (text-there issues j issue there) in
    record {
      by_itself = λ first.
          let leaf = subst (λ i. slice_get issues i ≡ Some issue) first there in
          let own = is.own (leaf-own issues issue anchor names leaf) in
          subst (λ t. IsSealedBy t (keys_at (said_by issues) 0 [])) (sym text)
          (is.seals (keys_at (said_by issues) 0 []) (subst (NamesSigner issue.signer) (sym (keys-there issues issue leaf)) own));
      by_superior = subst (λ t. IsSealedBy t (superior_keys (said_by issues) keys j)) (sym text) (is.seals _ named);
    }

signature-only : (issues : List Issue) (anchor : List ℕ) (keys : List Jwk) (place : ℕ) → AreIssues issues → HasNames (said_by issues) anchor
    → FailsFirst (SignedAt (texts_of issues) (said_by issues) keys) (length (said_by issues)) place → IsUnnamed issues keys place
signature-only issues anchor keys place are names fails =
    let there = issue-there issues place (omega (arith, length-said issues, fails.within)) in
    record {
      issue = there.0;
      there = there.1;
      unnamed = λ named. fails.here (signed-named issues anchor keys place there.0 are names there.1 named);
    }

-- ---- a chain of issues is refused for nothing else

pub refused-only : (issues : List Issue) (anchor : List ℕ) (keys : List Jwk) (moment place : ℕ) (reason : Reason) → AreIssues issues
    → IsVerdictOn (case_by issues anchor keys moment) (Refused place reason) → MayBeRefused issues (case_by issues anchor keys moment) place reason
refused-only issues anchor keys moment place Form are is = form-only issues place are is
refused-only issues anchor keys moment place Names are is = subst (λ chain. LosesNames chain anchor place) (issues-read issues are) is.1
refused-only issues anchor keys moment place Times are is =
    subst (λ n. FailsFirst (CurrentAt (said_by issues) moment) n place) (length-said issues)
    (subst (λ chain. FailsFirst (CurrentAt chain moment) (length chain) place) (issues-read issues are) is.1)
refused-only issues anchor keys moment place Signature are is =
    signature-only issues anchor keys place are (subst (λ chain. HasNames chain anchor) (issues-read issues are) is.0.0.1)
    (subst (λ chain. FailsFirst (SignedAt (texts_of issues) chain keys) (length chain) place) (issues-read issues are) is.1)
refused-only issues anchor keys moment place PathLength are is = subst (λ chain. FailsToResolve chain place PathLength) (issues-read issues are) is.1
refused-only issues anchor keys moment place Name are is = subst (λ chain. FailsToResolve chain place Name) (issues-read issues are) is.1
refused-only issues anchor keys moment place (Conflict t p f s) are is = subst (λ chain. FailsToResolve chain place (Conflict t p f s)) (issues-read issues are) is.1
refused-only issues anchor keys moment place (Policy t p o) are is = subst (λ chain. FailsToResolve chain place (Policy t p o)) (issues-read issues are) is.1
