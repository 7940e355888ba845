-- The table of claims, row by row.
use Rattle.std.proofs.Common.{◌≡◌, List, codes, bytes_eq, Bool, Ok, ◌∙◌, ap, subst}
use Rattle.fed_base.specs.Answers.{◌>>=◌}
use Rattle.fed_json.specs.declared.tree.Member.{Member}
use Rattle.entity_statement.specs.Claims.{Claims, CommonClaims, FurtherClaims, MarkClaims, RuleClaims, all_claims}
use Rattle.entity_statement.specs.Forms.{identifier, moment}
use Rattle.entity_statement.specs.Table.{claims_in, common_in, constraints_in, critical, formed, further_in, hints_in, key_set, mark_claims_in, mark_issuers_in, mark_owners_in, marks_in, metadata_in, optional, policy_crit_in, policy_in, required, rules_in}
use Rattle.entity_statement.proofs.Answers.{then-ok}

-- what each row gives, where the claims say this
pub record Rows (members : List Member) (s : Claims) : Type 0 where
  pub crit : optional tt (codes "crit") critical members ≡ Ok tt
  pub iss : required (codes "iss") (formed identifier) members ≡ Ok s.iss
  pub sub : required (codes "sub") (formed identifier) members ≡ Ok s.sub
  pub iat : required (codes "iat") (formed moment) members ≡ Ok s.iat
  pub exp : required (codes "exp") (formed moment) members ≡ Ok s.exp
  pub keys : required (codes "jwks") key_set members ≡ Ok s.keys
  pub hints : hints_in (bytes_eq s.iss s.sub) members ≡ Ok s.hints
  pub metadata : metadata_in members ≡ Ok s.metadata
  pub policy : policy_in (bytes_eq s.iss s.sub) members ≡ Ok s.policy
  pub policy_crit : policy_crit_in (bytes_eq s.iss s.sub) members ≡ Ok tt
  pub constraints : constraints_in (bytes_eq s.iss s.sub) members ≡ Ok s.constraints
  pub marks : marks_in (bytes_eq s.iss s.sub) members ≡ Ok s.marks
  pub issuers : mark_issuers_in (bytes_eq s.iss s.sub) members ≡ Ok s.issuers
  pub owners : mark_owners_in (bytes_eq s.iss s.sub) members ≡ Ok s.owners

-- ---- the table gives these claims exactly where each row gives its own

-- what each row of a part gives, where the part says this
record CommonRows (members : List Member) (c : CommonClaims) : Type 0 where
  crit_is : optional tt (codes "crit") critical members ≡ Ok tt
  iss_is : required (codes "iss") (formed identifier) members ≡ Ok c.iss
  sub_is : required (codes "sub") (formed identifier) members ≡ Ok c.sub
  iat_is : required (codes "iat") (formed moment) members ≡ Ok c.iat
  exp_is : required (codes "exp") (formed moment) members ≡ Ok c.exp
  keys_is : required (codes "jwks") key_set members ≡ Ok c.keys

record RuleRows (own : Bool) (members : List Member) (r : RuleClaims) : Type 0 where
  policy_is : policy_in own members ≡ Ok r.policy
  crit_is : policy_crit_in own members ≡ Ok tt
  constraints_is : constraints_in own members ≡ Ok r.constraints

record MarkRows (own : Bool) (members : List Member) (m : MarkClaims) : Type 0 where
  marks_is : marks_in own members ≡ Ok m.marks
  issuers_is : mark_issuers_in own members ≡ Ok m.issuers
  owners_is : mark_owners_in own members ≡ Ok m.owners

common_rows : (members : List Member) (c : CommonClaims) → common_in members ≡ Ok c → CommonRows members c
unfolding common_in
common_rows members c e =
    let crit = then-ok (optional tt (codes "crit") critical members) _ c e in
    let iss = then-ok (required (codes "iss") (formed identifier) members) _ c crit.2 in
    let sub = then-ok (required (codes "sub") (formed identifier) members) _ c iss.2 in
    let iat = then-ok (required (codes "iat") (formed moment) members) _ c sub.2 in
    let exp = then-ok (required (codes "exp") (formed moment) members) _ c iat.2 in
    let keys = then-ok (required (codes "jwks") key_set members) _ c exp.2 in
    let made : CommonClaims = record { iss = iss.0; sub = sub.0; iat = iat.0; exp = exp.0; keys = keys.0 } in
    let same : made ≡ c = cc (keys.2) in
    subst (CommonRows members) same (record { crit_is = crit.1; iss_is = iss.1; sub_is = sub.1; iat_is = iat.1; exp_is = exp.1; keys_is = keys.1 })

rule_rows : (own : Bool) (members : List Member) (r : RuleClaims) → rules_in own members ≡ Ok r → RuleRows own members r
unfolding rules_in
rule_rows own members r e =
    let policy = then-ok (policy_in own members) _ r e in
    let crit = then-ok (policy_crit_in own members) _ r policy.2 in
    let constraints = then-ok (constraints_in own members) _ r crit.2 in
    let made : RuleClaims = record { policy = policy.0; constraints = constraints.0 } in
    let same : made ≡ r = cc (constraints.2) in
    subst (RuleRows own members) same (record { policy_is = policy.1; crit_is = crit.1; constraints_is = constraints.1 })

mark_rows : (own : Bool) (members : List Member) (m : MarkClaims) → mark_claims_in own members ≡ Ok m → MarkRows own members m
unfolding mark_claims_in
mark_rows own members m e =
    let marks = then-ok (marks_in own members) _ m e in
    let issuers = then-ok (mark_issuers_in own members) _ m marks.2 in
    let owners = then-ok (mark_owners_in own members) _ m issuers.2 in
    let made : MarkClaims = record { marks = marks.0; issuers = issuers.0; owners = owners.0 } in
    let same : made ≡ m = cc (owners.2) in
    subst (MarkRows own members) same (record { marks_is = marks.1; issuers_is = issuers.1; owners_is = owners.1 })

-- all rows give what the claims say
pub rows : (members : List Member) (s : Claims) → claims_in members ≡ Ok s → Rows members s
unfolding claims_in further_in
rows members s e =
    let common = then-ok (common_in members) _ s e in
    let own = bytes_eq common.0.iss common.0.sub in
    let further = then-ok (further_in own members) _ s common.2 in
    let hints = then-ok (hints_in own members) _ further.0 further.1 in
    let metadata = then-ok (metadata_in members) _ further.0 hints.2 in
    let rules = then-ok (rules_in own members) _ further.0 metadata.2 in
    let marks = then-ok (mark_claims_in own members) _ further.0 rules.2 in
    let c = common_rows members common.0 common.1 in
    let r = rule_rows own members rules.0 rules.1 in
    let m = mark_rows own members marks.0 marks.1 in
    let parts : FurtherClaims = record { hints = hints.0; metadata = metadata.0; rules = rules.0; marks = marks.0 } in
    let these : parts ≡ further.0 = cc (marks.2) in
    let those : all_claims common.0 further.0 ≡ s = cc (further.2) in
    let same : all_claims common.0 parts ≡ s = ap (all_claims common.0) these ∙ those in
    subst (Rows members) same (record {
      crit = c.crit_is;
      iss = c.iss_is;
      sub = c.sub_is;
      iat = c.iat_is;
      exp = c.exp_is;
      keys = c.keys_is;
      hints = hints.1;
      metadata = metadata.1;
      policy = r.policy_is;
      policy_crit = r.crit_is;
      constraints = r.constraints_is;
      marks = m.marks_is;
      issuers = m.issuers_is;
      owners = m.owners_is;
    })

-- the parts of claims
abbrev common_of : Claims → CommonClaims
common_of s = record { iss = s.iss; sub = s.sub; iat = s.iat; exp = s.exp; keys = s.keys }

abbrev rules_of : Claims → RuleClaims
rules_of s = record { policy = s.policy; constraints = s.constraints }

abbrev said_of : Claims → MarkClaims
said_of s = record { marks = s.marks; issuers = s.issuers; owners = s.owners }

abbrev further_of : Claims → FurtherClaims
further_of s = record { hints = s.hints; metadata = s.metadata; rules = rules_of s; marks = said_of s }

abbrev own_of : Claims → Bool
own_of s = bytes_eq s.iss s.sub

made_common : (members : List Member) (s : Claims) → Rows members s → common_in members ≡ Ok (common_of s)
unfolding common_in
made_common members s r = λ i.
    r.crit i >>= λ understood. r.iss i >>= λ iss. r.sub i >>= λ sub. r.iat i >>= λ iat. r.exp i >>= λ exp. r.keys i >>= λ keys.
    Ok (record { iss = iss; sub = sub; iat = iat; exp = exp; keys = keys })

made_rules : (members : List Member) (s : Claims) → Rows members s → rules_in (own_of s) members ≡ Ok (rules_of s)
unfolding rules_in
made_rules members s r = λ i.
    r.policy i >>= λ policy. r.policy_crit i >>= λ understood. r.constraints i >>= λ constraints. Ok (record { policy = policy; constraints = constraints })

made_said : (members : List Member) (s : Claims) → Rows members s → mark_claims_in (own_of s) members ≡ Ok (said_of s)
unfolding mark_claims_in
made_said members s r = λ i.
    r.marks i >>= λ marks. r.issuers i >>= λ issuers. r.owners i >>= λ owners. Ok (record { marks = marks; issuers = issuers; owners = owners })

made_further : (members : List Member) (s : Claims) → Rows members s → further_in (own_of s) members ≡ Ok (further_of s)
unfolding further_in
made_further members s r = λ i.
    r.hints i >>= λ hints. r.metadata i >>= λ metadata. made_rules members s r i >>= λ rules. made_said members s r i >>= λ marks.
    Ok (record { hints = hints; metadata = metadata; rules = rules; marks = marks })

-- the claims are given where each row gives its own
pub made : (members : List Member) (s : Claims) → Rows members s → claims_in members ≡ Ok s
unfolding claims_in
made members s r =
    (λ i. made_common members s r i >>= λ c. further_in (bytes_eq c.iss c.sub) members >>= λ f. Ok (all_claims c f))
    ∙ (λ i. made_further members s r i >>= λ f. Ok (all_claims (common_of s) f))
