use Rattle.std.proofs.Common.{rules, ◌≡◌, sym, subst}
use Rattle.cli_commands.proofs.FindingLaws.{configuration_at, none_read, statement_at}
use Rattle.cli_commands.proofs.verify_finding.examine.Goals as goal
use Rattle.cli_commands.specs.Findings.{IsFinding}
use Rattle.cli_commands.specs.declared.verify_finding.Finding.TheVariants.{Valid}
use Rattle.slh_dsa.specs.Verifying.{Verifies}

pub returns-then-has_signature : goal.returns-then-has_signature
returns-then-has_signature g c =
    let s = c.in-Some.signed in
    let same : s.statement.iss ≡ s.statement.sub = search rules in
    let is = configuration_at c.args.text.now c.in_ok-signed.field-0 s (search rules) c.in_ok-signed.ensures same in
    let verifies : Verifies s.compact.alg c.args.key.now s.compact.signed s.compact.signature = search rules in
    subst (λ sub. IsFinding c.args.key.now c.args.text.now (Valid sub)) (sym c.subject.ensures) ((s.compact, is, verifies))

pub returns-else-has_signature : goal.returns-else-has_signature
returns-else-has_signature g c =
    let s = c.in-Some.signed in
    let same : s.statement.iss ≡ s.statement.sub = search rules in
    let is = configuration_at c.args.text.now c.in_ok-signed.field-0 s (search rules) c.in_ok-signed.ensures same in
    let fails : Verifies s.compact.alg c.args.key.now s.compact.signed s.compact.signature → ⊥ = search rules in
    (s.compact, s.statement.sub, is, fails)

pub returns-in_default : goal.returns-in_default
returns-in_default g c = none_read c.args.text.now c.in_ok-signed.field-0 c.in_default.not-Some c.in_ok-signed.ensures

pub returns-then-not-is_own : goal.returns-then-not-is_own
returns-then-not-is_own g c =
    let s = c.in-Some.signed in
    let is = statement_at c.args.text.now c.in_ok-signed.field-0 s (search rules) c.in_ok-signed.ensures in
    let differs : s.statement.iss ≡ s.statement.sub → ⊥ = search rules in
    (s.compact, s.statement.iss, s.statement.sub, is, differs)
