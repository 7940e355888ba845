-- What the names of a chain are, statement by statement.
use Rattle.std.proofs.Common.{◌≡◌, ◌<◌, ℕ, List, length, get_or, bytes_eq, Some, refl, sym, ap, ◌∙◌}
use Rattle.std.specs.Prelude.{◌↔◌, Bool, true, option_map, slice_get}
use Rattle.std.proofs.lemmas.List.{length-map}
use Rattle.std.proofs.lemmas.Option.{slice_get-get_or, slice_get-map}
use Rattle.std.proofs.lemmas.Slice.Eq.{bytes_eq-Decides}
use Rattle.entity_statement.specs.declared.signed.SignedStatement.{SignedStatement}
use Rattle.chain_check.specs.Names.{issuer_at, subject_at}
use Rattle.chain_check.specs.Reading.{claims_in, entry_claims}

-- the statement at a place
module _ (entries : List SignedStatement) (j : ℕ) (d : SignedStatement) (short : j < length entries) where
  pub claims-there : slice_get (claims_in entries) j ≡ Some (entry_claims (get_or entries j d))
  claims-there = slice_get-map entry_claims entries j ∙ ap (option_map entry_claims) (slice_get-get_or entries j d short)

  pub issuer-there : issuer_at (claims_in entries) j ≡ (get_or entries j d).statement.iss
  issuer-there = rw claims-there refl

  pub subject-there : subject_at (claims_in entries) j ≡ (get_or entries j d).statement.sub
  subject-there = rw claims-there refl

pub length-claims : (entries : List SignedStatement) → length (claims_in entries) ≡ length entries
length-claims entries = length-map entries entry_claims

-- a test of two names says whether they are one
pub same-exactly : (b : Bool) (x y x' y' : List ℕ) → b ≡ bytes_eq x' y' → x ≡ x' → y ≡ y' → (b ≡ true) ↔ (x ≡ y)
same-exactly b x y x' y' tested is_x is_y = (λ yes. is_x ∙ (bytes_eq-Decides x' y').0 (sym tested ∙ yes) ∙ sym is_y, λ same. tested ∙ (bytes_eq-Decides x' y').1 (sym is_x ∙ same ∙ is_y))

-- two facts agree where one of them is known
pub agree-where : (b : Bool) (C E : Type 0) → C → ((b ≡ true) ↔ E) → (b ≡ true) ↔ (C ↔ E)
agree-where b C E holds exactly = (λ yes. (λ _. exactly.0 yes, λ _. holds), λ both. exactly.1 (both.0 holds))

pub agree-unless : (b : Bool) (C E : Type 0) → ¬ C → ((b ≡ true) ↔ (¬ E)) → (b ≡ true) ↔ (C ↔ E)
agree-unless b C E fails exactly = (λ yes. (λ c. absurd (fails c), λ e. absurd (exactly.0 yes e)), λ both. exactly.1 (λ e. fails (both.1 e)))
