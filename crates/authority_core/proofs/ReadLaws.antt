-- The claims that a node states read back as what is configured.
use Rattle.std.proofs.Common.{◌≡◌, ◌≢◌, ◌<◌, ℕ, List, [], ◌∷◌, ◌++◌, bytes_eq, true, false, Option, Some, None, is_some, refl, sym, ap, ◌∙◌, subst, true≢false, arith}
use Rattle.std.specs.Prelude.{IfSome, IsTrue, MatchOption, codes, unwrap_or}
use Rattle.std.specs.List.{list_all}
use Rattle.std.specs.Option.{option_map_or}
use Rattle.fed_base.specs.Moments.{moment_limit}
use Rattle.fed_json.specs.declared.tree.Json.{Json}
use Rattle.fed_json.specs.declared.tree.Member.{Member}
use Rattle.fed_json.specs.Forms.{IsWhole}
use Rattle.fed_json.specs.Members.{number_member, text_member}
use Rattle.fed_json.specs.Metadata.{IsMetadata}
use Rattle.fed_json.specs.Reading.{member_of}
use Rattle.fed_json.specs.Tables.{Name}
use Rattle.fed_json.specs.Trees.{find, texts_of}
use Rattle.jwk_set.specs.declared.jwk.Jwk.{Jwk}
use Rattle.jwk_set.specs.KeySets.{IsKeySet}
use Rattle.jwk_set.specs.Trees.{set_tree}
use Rattle.policy_merge.specs.Shapes.{policy_shape}
use Rattle.chain_limits.specs.Reading.{constraints_of, no_constraints}
use Rattle.entity_id.specs.Identifiers.{IsIdentifier}
use Rattle.entity_statement.specs.Claims.{no_metadata}
use Rattle.entity_statement.specs.Forms.{hints_of, issuers_of, marks_of, owners_of}
use Rattle.entity_statement.specs.Grammar.{AreOperators, SaysClaims}
use Rattle.entity_statement.specs.Table.{is_operator}
use Rattle.entity_statement.proofs.Laws.{only}
use Rattle.key_ring.specs.Sets.{live_set}
use Rattle.node_config.specs.Forms.{are_operators, has_form}
use Rattle.node_config.specs.Nodes.{Settings, Subordinate}
use Rattle.node_config.specs.Stated.{AreAbout, AreOwn}
use Rattle.node_config.specs.declared.settings.OwnClaims.{OwnClaims}
use Rattle.node_config.specs.declared.subordinates.ClaimsAbout.{ClaimsAbout}
use Rattle.authority_core.specs.Endpoints.{own_metadata}
use Rattle.authority_core.specs.Issued.{claim, configuration_claims, configuration_members, end_of, statement_claims, statement_members}
use Rattle.authority_core.specs.Nodes.{Node}
use Rattle.authority_core.specs.ReadBack.{ReadsAs, claims_about, own_claims, said}
use Rattle.authority_core.proofs.Members.{here, here_last, past, past_last}

-- ---- the forms of configured claims

-- a configured claim has its form
abbrev HasForm : {X : Type 0} → (Json → Option X) → Option Json → Type 0
HasForm form o = IfSome o (λ tree. is_some (form tree) ≡ true)

formed : (form : Json → Type 0) (o : Option Json) → IfSome o (λ tree. form tree × IsWhole tree) → IfSome o form
formed form None says = tt
formed form (Some tree) says = says.0

record HasOwnForms (claims : OwnClaims) : Type 0 where
  hints : HasForm hints_of claims.hints
  marks : HasForm marks_of claims.marks
  issuers : HasForm issuers_of claims.issuers
  owners : HasForm owners_of claims.owners

own-forms : (claims : OwnClaims) → AreOwn claims → HasOwnForms claims
unfolding has_form
own-forms claims own = record {
  hints = formed (λ tree. is_some (hints_of tree) ≡ true) claims.hints own.hints;
  marks = formed (λ tree. is_some (marks_of tree) ≡ true) claims.marks own.marks;
  issuers = formed (λ tree. is_some (issuers_of tree) ≡ true) claims.issuers own.issuers;
  owners = formed (λ tree. is_some (owners_of tree) ≡ true) claims.owners own.owners;
}

record HasFormsAbout (claims : ClaimsAbout) : Type 0 where
  metadata : IfSome claims.metadata IsMetadata
  policy : HasForm policy_shape claims.policy
  policy_crit : IfSome claims.policy_crit (λ tree. are_operators tree ≡ true)
  constraints : HasForm constraints_of claims.constraints

forms-about : (claims : ClaimsAbout) → AreAbout claims → HasFormsAbout claims
unfolding has_form
forms-about claims about = record {
  metadata = formed IsMetadata claims.metadata about.metadata;
  policy = formed (λ tree. is_some (policy_shape tree) ≡ true) claims.policy about.policy;
  policy_crit = formed (λ tree. are_operators tree ≡ true) claims.policy_crit about.policy_crit;
  constraints = formed (λ tree. is_some (constraints_of tree) ≡ true) claims.constraints about.constraints;
}

operators-by : (o : Option (List Name)) → option_map_or (list_all is_operator) o false ≡ true → (names : List Name) × (o ≡ Some names) × IsTrue (list_all is_operator names)
operators-by None is = absurd (true≢false (sym is))
operators-by (Some names) is = (names, refl, is)

operators-are : (o : Option Json) → IfSome o (λ tree. are_operators tree ≡ true) → IfSome o AreOperators
operators-are None is = tt
operators-are (Some tree) is = operators-by (texts_of tree) is

-- ---- claims that may be absent

some-is : {X : Type 0} (empty : X) (o : Option X) → is_some o ≡ true → o ≡ Some (unwrap_or o empty)
some-is empty None is = absurd (true≢false (sym is))
some-is empty (Some x) is = refl

says : {X : Type 0} (form : Json → Option X) (empty : X) (o : Option Json) → HasForm form o → MatchOption o (said form empty o ≡ empty) (λ tree. form tree ≡ Some (said form empty o))
says form empty None is = refl
says form empty (Some tree) is = some-is empty (form tree) is

beside : (o : Option Json) (E Q : Type 0) (P : Json → Type 0) → Q → MatchOption o E P → MatchOption o E (λ tree. Q × P tree)
beside None E Q P q is = is
beside (Some tree) E Q P q is = (q, is)

under : (found o : Option Json) (E : Type 0) (P : Json → Type 0) → found ≡ o → MatchOption o E P → MatchOption found E P
under found o E P same is = subst (λ (x : Option Json). MatchOption x E P) (sym same) is

end-small : (lifetime t : ℕ) → end_of lifetime t < moment_limit
end-small lifetime t = omega arith

-- ---- the node's configuration

-- the members behind the hints, and those behind the subject
abbrev last_own : Settings → List Member
last_own settings = claim (codes "trust_mark_issuers") settings.claims.issuers ++ (claim (codes "trust_mark_owners") settings.claims.owners ++ claim (codes "trust_marks") settings.claims.marks)

abbrev later_own : Settings → List Jwk → ℕ → List Member
later_own settings keys t =
    number_member (codes "exp") (end_of settings.lifetime t) ∷ (number_member (codes "iat") t ∷ (text_member (codes "iss") settings.id
    ∷ (member_of (codes "jwks") (set_tree keys) ∷ (member_of (codes "metadata") (own_metadata settings) ∷ (text_member (codes "sub") settings.id ∷ last_own settings)))))

-- no claim of that name is among the last ones
none-last : (name : Name) (settings : Settings) → bytes_eq (codes "trust_mark_issuers") name ≡ false
    → bytes_eq (codes "trust_mark_owners") name ≡ false → bytes_eq (codes "trust_marks") name ≡ false → find name (last_own settings) ≡ None
none-last name settings issuers owners marks =
    past name (codes "trust_mark_issuers") settings.claims.issuers (claim (codes "trust_mark_owners") settings.claims.owners ++ claim (codes "trust_marks") settings.claims.marks) issuers
    ∙ past name (codes "trust_mark_owners") settings.claims.owners (claim (codes "trust_marks") settings.claims.marks) owners
    ∙ past_last name (codes "trust_marks") settings.claims.marks marks

module _ (settings : Settings) (keys : List Jwk) (t : ℕ) where
  -- a claim other than the hints is found behind them
  behind : (name : Name) → bytes_eq (codes "authority_hints") name ≡ false → find name (configuration_members settings keys t) ≡ find name (later_own settings keys t)
  behind name differs = past name (codes "authority_hints") settings.claims.hints (later_own settings keys t) differs

  own-hints : find (codes "authority_hints") (configuration_members settings keys t) ≡ settings.claims.hints
  own-hints = here (codes "authority_hints") settings.claims.hints (later_own settings keys t) refl (none-last (codes "authority_hints") settings refl refl refl)

  own-issuers : find (codes "trust_mark_issuers") (configuration_members settings keys t) ≡ settings.claims.issuers
  own-issuers =
      behind (codes "trust_mark_issuers") refl
      ∙ here (codes "trust_mark_issuers") settings.claims.issuers (claim (codes "trust_mark_owners") settings.claims.owners ++ claim (codes "trust_marks") settings.claims.marks) refl
      (past (codes "trust_mark_issuers") (codes "trust_mark_owners") settings.claims.owners (claim (codes "trust_marks") settings.claims.marks) refl ∙ past_last (codes "trust_mark_issuers") (codes "trust_marks") settings.claims.marks refl)

  own-owners : find (codes "trust_mark_owners") (configuration_members settings keys t) ≡ settings.claims.owners
  own-owners =
      behind (codes "trust_mark_owners") refl
      ∙ past (codes "trust_mark_owners") (codes "trust_mark_issuers") settings.claims.issuers (claim (codes "trust_mark_owners") settings.claims.owners ++ claim (codes "trust_marks") settings.claims.marks) refl
      ∙ here (codes "trust_mark_owners") settings.claims.owners (claim (codes "trust_marks") settings.claims.marks) refl (past_last (codes "trust_mark_owners") (codes "trust_marks") settings.claims.marks refl)

  own-marks : find (codes "trust_marks") (configuration_members settings keys t) ≡ settings.claims.marks
  own-marks =
      behind (codes "trust_marks") refl
      ∙ past (codes "trust_marks") (codes "trust_mark_issuers") settings.claims.issuers (claim (codes "trust_mark_owners") settings.claims.owners ++ claim (codes "trust_marks") settings.claims.marks) refl
      ∙ past (codes "trust_marks") (codes "trust_mark_owners") settings.claims.owners (claim (codes "trust_marks") settings.claims.marks) refl
      ∙ here_last (codes "trust_marks") settings.claims.marks refl

  -- no other claim is there
  own-none : (name : Name) → bytes_eq (codes "authority_hints") name ≡ false → find name (later_own settings keys t) ≡ find name (last_own settings)
      → bytes_eq (codes "trust_mark_issuers") name ≡ false → bytes_eq (codes "trust_mark_owners") name ≡ false
      → bytes_eq (codes "trust_marks") name ≡ false → find name (configuration_members settings keys t) ≡ None
  own-none name hints later issuers owners marks = behind name hints ∙ later ∙ none-last name settings issuers owners marks

  own-says : IsIdentifier settings.id → HasOwnForms settings.claims → IsMetadata (own_metadata settings) → IsKeySet (set_tree keys) keys → t < moment_limit → SaysClaims (configuration_members settings keys t) (own_claims settings keys t)
  own-says id has metadata set small = record {
    crit = own-none (codes "crit") refl refl refl refl refl;
    iss = (behind (codes "iss") refl, id);
    sub = (behind (codes "sub") refl, id);
    iat = (behind (codes "iat") refl, small);
    exp = (behind (codes "exp") refl, end-small settings.lifetime t);
    jwks = (set_tree keys, behind (codes "jwks") refl, set);
    authority_hints = under _ settings.claims.hints _ (λ tree. (settings.id ≡ settings.id) × (hints_of tree ≡ Some (said hints_of [] settings.claims.hints))) own-hints
        (beside settings.claims.hints _ (settings.id ≡ settings.id) _ refl (says hints_of [] settings.claims.hints has.hints));
    metadata = under _ (Some (own_metadata settings)) _ (λ tree. IsMetadata tree × (own_metadata settings ≡ tree)) (behind (codes "metadata") refl) (metadata, refl);
    metadata_policy = under _ None _ _ (own-none (codes "metadata_policy") refl refl refl refl refl) refl;
    metadata_policy_crit = under _ None _ _ (own-none (codes "metadata_policy_crit") refl refl refl refl refl) tt;
    constraints = under _ None _ _ (own-none (codes "constraints") refl refl refl refl refl) refl;
    trust_marks = λ same. under _ settings.claims.marks _ (λ tree. marks_of tree ≡ Some (said marks_of [] settings.claims.marks)) own-marks (says marks_of [] settings.claims.marks has.marks);
    trust_mark_issuers = λ same. under _ settings.claims.issuers _ (λ tree. issuers_of tree ≡ Some (said issuers_of [] settings.claims.issuers)) own-issuers (says issuers_of [] settings.claims.issuers has.issuers);
    trust_mark_owners = λ same. under _ settings.claims.owners _ (λ tree. owners_of tree ≡ Some (said owners_of [] settings.claims.owners)) own-owners (says owners_of [] settings.claims.owners has.owners);
    unmarked = λ differ. absurd (differ refl);
  }

-- ---- the statement about a subordinate

abbrev last_about : Subordinate → List Member
last_about s = text_member (codes "sub") s.entity.id ∷ []

abbrev crit_about : Subordinate → List Member
crit_about s = claim (codes "metadata_policy_crit") s.claims.policy_crit ++ last_about s

abbrev policy_about : Subordinate → List Member
policy_about s = claim (codes "metadata_policy") s.claims.policy ++ crit_about s

abbrev metadata_about : Subordinate → List Member
metadata_about s = claim (codes "metadata") s.claims.metadata ++ policy_about s

abbrev later_about : Settings → Subordinate → ℕ → List Member
later_about settings s t =
    number_member (codes "exp") (end_of settings.lifetime t) ∷ (number_member (codes "iat") t ∷ (text_member (codes "iss") settings.id
    ∷ (member_of (codes "jwks") (set_tree s.entity.keys) ∷ metadata_about s)))

-- a claim that isn't one of the four is found behind them
past-all : (name : Name) (s : Subordinate) → bytes_eq (codes "metadata") name ≡ false → bytes_eq (codes "metadata_policy") name ≡ false → bytes_eq (codes "metadata_policy_crit") name ≡ false
    → find name (metadata_about s) ≡ find name (last_about s)
past-all name s metadata policy crit =
    past name (codes "metadata") s.claims.metadata (policy_about s) metadata
    ∙ past name (codes "metadata_policy") s.claims.policy (crit_about s) policy
    ∙ past name (codes "metadata_policy_crit") s.claims.policy_crit (last_about s) crit

metadata-says : (o : Option Json) → IfSome o IsMetadata → MatchOption o (unwrap_or o no_metadata ≡ no_metadata) (λ tree. IsMetadata tree × (unwrap_or o no_metadata ≡ tree))
metadata-says None is = refl
metadata-says (Some tree) is = (is, refl)

operators-say : (o : Option Json) → IfSome o AreOperators → MatchOption o (Unit {0}) AreOperators
operators-say None is = tt
operators-say (Some tree) is = is

module _ (settings : Settings) (s : Subordinate) (t : ℕ) where
  behind-limits : (name : Name) → bytes_eq (codes "constraints") name ≡ false → find name (statement_members settings s t) ≡ find name (later_about settings s t)
  behind-limits name differs = past name (codes "constraints") s.claims.constraints (later_about settings s t) differs

  about-none : (name : Name) → bytes_eq (codes "constraints") name ≡ false → find name (later_about settings s t) ≡ find name (metadata_about s)
      → bytes_eq (codes "metadata") name ≡ false → bytes_eq (codes "metadata_policy") name ≡ false → bytes_eq (codes "metadata_policy_crit") name ≡ false
      → find name (last_about s) ≡ None → find name (statement_members settings s t) ≡ None
  about-none name limits later metadata policy crit none = behind-limits name limits ∙ later ∙ past-all name s metadata policy crit ∙ none

  about-limits : find (codes "constraints") (statement_members settings s t) ≡ s.claims.constraints
  about-limits = here (codes "constraints") s.claims.constraints (later_about settings s t) refl (past-all (codes "constraints") s refl refl refl)

  about-metadata : find (codes "metadata") (statement_members settings s t) ≡ s.claims.metadata
  about-metadata =
      behind-limits (codes "metadata") refl
      ∙ here (codes "metadata") s.claims.metadata (policy_about s) refl
      (past (codes "metadata") (codes "metadata_policy") s.claims.policy (crit_about s) refl ∙ past (codes "metadata") (codes "metadata_policy_crit") s.claims.policy_crit (last_about s) refl)

  about-policy : find (codes "metadata_policy") (statement_members settings s t) ≡ s.claims.policy
  about-policy =
      behind-limits (codes "metadata_policy") refl
      ∙ past (codes "metadata_policy") (codes "metadata") s.claims.metadata (policy_about s) refl
      ∙ here (codes "metadata_policy") s.claims.policy (crit_about s) refl (past (codes "metadata_policy") (codes "metadata_policy_crit") s.claims.policy_crit (last_about s) refl)

  about-crit : find (codes "metadata_policy_crit") (statement_members settings s t) ≡ s.claims.policy_crit
  about-crit =
      behind-limits (codes "metadata_policy_crit") refl
      ∙ past (codes "metadata_policy_crit") (codes "metadata") s.claims.metadata (policy_about s) refl
      ∙ past (codes "metadata_policy_crit") (codes "metadata_policy") s.claims.policy (crit_about s) refl
      ∙ here (codes "metadata_policy_crit") s.claims.policy_crit (last_about s) refl refl

  about-says : IsIdentifier settings.id → IsIdentifier s.entity.id → HasFormsAbout s.claims → settings.id ≢ s.entity.id → IsKeySet (set_tree s.entity.keys) s.entity.keys → t < moment_limit → SaysClaims (statement_members settings s t) (claims_about settings s t)
  about-says id sub has other set small = record {
    crit = about-none (codes "crit") refl refl refl refl refl refl;
    iss = (behind-limits (codes "iss") refl, id);
    sub = (behind-limits (codes "sub") refl ∙ past-all (codes "sub") s refl refl refl, sub);
    iat = (behind-limits (codes "iat") refl, small);
    exp = (behind-limits (codes "exp") refl, end-small settings.lifetime t);
    jwks = (set_tree s.entity.keys, behind-limits (codes "jwks") refl, set);
    authority_hints = under _ None _ _ (about-none (codes "authority_hints") refl refl refl refl refl refl) refl;
    metadata = under _ s.claims.metadata _ (λ tree. IsMetadata tree × (unwrap_or s.claims.metadata no_metadata ≡ tree)) about-metadata (metadata-says s.claims.metadata has.metadata);
    metadata_policy = under _ s.claims.policy _ (λ tree. (settings.id ≢ s.entity.id) × (policy_shape tree ≡ Some (said policy_shape [] s.claims.policy))) about-policy
        (beside s.claims.policy _ (settings.id ≢ s.entity.id) _ other (says policy_shape [] s.claims.policy has.policy));
    metadata_policy_crit = under _ s.claims.policy_crit _ (λ tree. (settings.id ≢ s.entity.id) × AreOperators tree) about-crit
        (beside s.claims.policy_crit _ (settings.id ≢ s.entity.id) _ other (operators-say s.claims.policy_crit (operators-are s.claims.policy_crit has.policy_crit)));
    constraints = under _ s.claims.constraints _ (λ tree. (settings.id ≢ s.entity.id) × (constraints_of tree ≡ Some (said constraints_of no_constraints s.claims.constraints))) about-limits
        (beside s.claims.constraints _ (settings.id ≢ s.entity.id) _ other (says constraints_of no_constraints s.claims.constraints has.constraints));
    trust_marks = λ same. absurd (other same);
    trust_mark_issuers = λ same. absurd (other same);
    trust_mark_owners = λ same. absurd (other same);
    unmarked = λ differ. (refl, refl, refl);
  }

-- ---- the texts

pub configuration-reads : (node : Node) (t : ℕ) (tree : Json) → tree ≡ configuration_claims node t → IsIdentifier node.settings.id → AreOwn node.settings.claims → IsMetadata (own_metadata node.settings)
    → IsKeySet (set_tree (live_set node.ring)) (live_set node.ring) → t < moment_limit → ReadsAs tree (own_claims node.settings (live_set node.ring) t)
unfolding configuration_claims
configuration-reads node t tree is id own metadata set small c typed payload =
    only c (own_claims node.settings (live_set node.ring) t) (record {
      typed = typed;
      members = configuration_members node.settings (live_set node.ring) t;
      object = payload ∙ ap Some is;
      says = own-says node.settings (live_set node.ring) t id (own-forms node.settings.claims own) metadata set small;
    })

pub statement-reads : (settings : Settings) (s : Subordinate) (t : ℕ) (tree : Json) → tree ≡ statement_claims settings s t → IsIdentifier settings.id → IsIdentifier s.entity.id → AreAbout s.claims
    → IsKeySet (set_tree s.entity.keys) s.entity.keys → t < moment_limit → settings.id ≢ s.entity.id → ReadsAs tree (claims_about settings s t)
unfolding statement_claims
statement-reads settings s t tree is id sub about set small other c typed payload =
    only c (claims_about settings s t) (record {
      typed = typed;
      members = statement_members settings s t;
      object = payload ∙ ap Some is;
      says = about-says settings s t id sub (forms-about s.claims about) other set small;
    })
