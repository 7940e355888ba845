-- A text has one finding under a key.
use Rattle.std.proofs.Common.{◌≡◌, ◌≤◌, ℕ, List, refl, sym, ap, ◌∙◌, subst, lit≤}
use Rattle.std.specs.Prelude.{Ok, Option, Some, None}
use Rattle.entity_statement.specs.Signed.{IsReading, statement_of}
use Rattle.entity_statement.specs.Table.{claims_of}
use Rattle.entity_statement.specs.Told.{told}
use Rattle.entity_statement.proofs.SignedTexts.{claims_of-read, claims_of-unread}
use Rattle.cli_commands.specs.Configurations.{IsStatementBy}
use Rattle.cli_commands.specs.Findings.{IsFinding, status_of}
use Rattle.entity_statement.specs.declared.signed.SignedStatement.{SignedStatement}
use Rattle.cli_commands.specs.declared.verify_finding.Finding.{Finding}
use Rattle.cli_commands.specs.declared.verify_finding.Finding.TheVariants.{Valid, Form, Names, Signature}
use Rattle.jws_form.specs.declared.compact.Compact.{Compact}
use Rattle.jws_form.specs.Compact.{IsCompact}
use Rattle.jws_form.proofs.Laws.{IsCompact-unique}
use Rattle.slh_dsa.specs.Verifying.{Verifies}

-- the status is 0 or 1
pub status_small : (f : Finding) → status_of f ≤ 1
status_small (Valid sub) = lit≤ tt
status_small Form = lit≤ tt
status_small Names = lit≤ tt
status_small Signature = lit≤ tt

-- the statements of one text agree in their parts and names
pub statement_once : (text : List ℕ) (c d : Compact) (a b i j : List ℕ) → IsStatementBy text c a i → IsStatementBy text d b j → (c ≡ d) × (a ≡ b) × (i ≡ j)
statement_once text c d a b i j p q =
    let same : c ≡ d = IsCompact-unique text c d p.compact q.compact in
    let reads : claims_of d ≡ Ok p.claims = subst (λ z. claims_of z ≡ Ok p.claims) same p.reads in
    let claims : p.claims ≡ q.claims = cc (reads, q.reads) in
    (same, sym p.issuer ∙ (ap (λ z. z.iss) claims ∙ q.issuer), sym p.subject ∙ (ap (λ z. z.sub) claims ∙ q.subject))

-- a text has one finding under a key
pub finding_once : (key text : List ℕ) (f g : Finding) → IsFinding key text f → IsFinding key text g → f ≡ g
finding_once key text (Valid s) (Valid t) (c, p, v) (d, q, w) = ap Valid ((statement_once text c d s t s t p q).1)
finding_once key text (Valid s) Form (c, p, v) q = absurd (q c s s p)
finding_once key text (Valid s) Names (c, p, v) (d, i, t, q, other) =
    let both = statement_once text c d s i s t p q in
    absurd (other (sym both.1 ∙ both.2))
finding_once key text (Valid s) Signature (c, p, v) (d, t, q, fails) =
    let both = statement_once text c d s t s t p q in
    absurd (fails (subst (λ z. Verifies z.alg key z.signed z.signature) both.0 v))
finding_once key text Form (Valid t) p (d, q, w) = absurd (p d t t q)
finding_once key text Form Form p q = refl
finding_once key text Form Names p (d, i, t, q, other) = absurd (p d i t q)
finding_once key text Form Signature p (d, t, q, fails) = absurd (p d t t q)
finding_once key text Names (Valid t) (c, i, s, p, other) (d, q, w) =
    let both = statement_once text c d i t s t p q in
    absurd (other (both.1 ∙ sym both.2))
finding_once key text Names Form (c, i, s, p, other) q = absurd (q c i s p)
finding_once key text Names Names p q = refl
finding_once key text Names Signature (c, i, s, p, other) (d, t, q, fails) =
    let both = statement_once text c d i t s t p q in
    absurd (other (both.1 ∙ sym both.2))
finding_once key text Signature (Valid t) (c, s, p, fails) (d, q, w) =
    let both = statement_once text c d s t s t p q in
    absurd (fails (subst (λ z. Verifies z.alg key z.signed z.signature) (sym both.0) w))
finding_once key text Signature Form (c, s, p, fails) q = absurd (q c s s p)
finding_once key text Signature Names (c, s, p, fails) (d, i, t, q, other) =
    let both = statement_once text c d s i s t p q in
    absurd (other (sym both.1 ∙ both.2))
finding_once key text Signature Signature p q = refl

-- a text that reads as no statement is none by any issuer about any subject
unread : (text : List ℕ) (read : Option SignedStatement) → read ≡ None → IsReading text read → (c : Compact) (iss sub : List ℕ) → ¬ IsStatementBy text c iss sub
unread text read none reading c iss sub is =
    let unread : statement_of text ≡ None = subst (IsReading text) none reading in
    claims_of-unread text c is.claims is.compact unread is.reads

none_left : {X : Type 0} (o : Option X) → ((x : X) → o ≡ Some x → ⊥) → o ≡ None
none_left None not_some = refl
none_left (Some x) not_some = absurd (not_some x refl)

-- a reading that isn't any statement
pub none_read : (text : List ℕ) (read : Option SignedStatement) → ((s : SignedStatement) → read ≡ Some s → ⊥) → IsReading text read → (c : Compact) (iss sub : List ℕ) → ¬ IsStatementBy text c iss sub
none_read text read not_some reading = unread text read (none_left read not_some) reading

-- what was read is a statement by its issuer about its subject
pub statement_at : (text : List ℕ) (read : Option SignedStatement) (s : SignedStatement) → read ≡ Some s → IsReading text read
    → IsStatementBy text s.compact s.statement.iss s.statement.sub
statement_at text read s is reading =
    let found : IsReading text (Some s) = subst (IsReading text) is reading in
    let compact : IsCompact text s.compact = subst (λ x. IsCompact x s.compact) found.1 found.2 in
    record { compact = compact; claims = told s.statement; reads = claims_of-read text s.compact (told s.statement) compact found.0; issuer = refl; subject = refl }

-- what was read by one entity about itself is its configuration
pub configuration_at : (text : List ℕ) (read : Option SignedStatement) (s : SignedStatement) → read ≡ Some s → IsReading text read
    → s.statement.iss ≡ s.statement.sub → IsStatementBy text s.compact s.statement.sub s.statement.sub
configuration_at text read s is reading same = subst (λ z. IsStatementBy text s.compact z s.statement.sub) same (statement_at text read s is reading)
