-- What `verify` finds of a text under a public key, and the line that says so.
use Rattle.std.specs.Prelude.{◌≡◌, ◌≢◌, ℕ, List, [], ◌∷◌, ◌++◌, codes}
use Rattle.cli_commands.specs.Configurations.{IsStatementBy}
use Rattle.cli_rings.specs.Replies.{plain}
use Rattle.cli_rings.specs.declared.reply.Reply.{Reply}
use Rattle.cli_commands.specs.declared.verify_finding.Finding.{Finding}
use Rattle.cli_commands.specs.declared.verify_finding.Finding.TheVariants.{Valid, Form, Names, Signature}
use Rattle.jws_form.specs.declared.compact.Compact.{Compact}
use Rattle.slh_dsa.specs.Verifying.{Verifies}

-- a configuration has one entity as issuer and subject, and its signature verifies by the algorithm that its header names (RFC 7515
-- section 4.1.1); else the first of these that fails
abbrev pub IsFinding : List ℕ → List ℕ → Finding → Type 0
IsFinding key text (Valid sub) = (c : Compact) × IsStatementBy text c sub sub × Verifies c.alg key c.signed c.signature
IsFinding key text Form = (c : Compact) (iss sub : List ℕ) → ¬ IsStatementBy text c iss sub
IsFinding key text Names = (c : Compact) × (iss : List ℕ) × (sub : List ℕ) × IsStatementBy text c iss sub × (iss ≢ sub)
IsFinding key text Signature = (c : Compact) × (sub : List ℕ) × IsStatementBy text c sub sub × ¬ Verifies c.alg key c.signed c.signature

-- 0 for a valid text, 1 for a refused one
abbrev pub status_of : Finding → ℕ
status_of (Valid sub) = 0
status_of Form = 1
status_of Names = 1
status_of Signature = 1

-- the line that is written, with its line end
abbrev pub line_of : Finding → List ℕ
line_of (Valid sub) = codes "valid " ++ (sub ++ 10 ∷ [])
line_of Form = codes "refused Form" ++ 10 ∷ []
line_of Names = codes "refused Names" ++ 10 ∷ []
line_of Signature = codes "refused Signature" ++ 10 ∷ []

-- the reply tells the finding of the text under the key
abbrev pub IsVerified : List ℕ → List ℕ → Reply → Type 0
IsVerified key text reply = (f : Finding) × IsFinding key text f × (reply ≡ plain (status_of f) (line_of f))
