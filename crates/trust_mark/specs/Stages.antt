-- What the stages of a reading and of a check answer; no public clause cites it.
use Rattle.std.specs.Prelude.{◌≡◌, ℕ, List, codes, Option, Some, None, Result, Ok, Err}
use Rattle.fed_base.specs.Answers.{◌>>=◌}
use Rattle.fed_base.specs.declared.faults.Memory.{Memory as NoMemory}
use Rattle.fed_json.specs.declared.tree.Member.{Member}
use Rattle.jws_form.specs.declared.compact.Compact.{Compact}
use Rattle.entity_statement.specs.Forms.{identifier}
use Rattle.trust_mark.specs.Claims.{any_text, claim}
use Rattle.trust_mark.specs.Marks.{delegation_of}
use Rattle.trust_mark.specs.Signed.{IsReading}
use Rattle.trust_mark.specs.declared.fault.MarkFault.{MarkFault}
use Rattle.trust_mark.specs.declared.fault.MarkFault.TheVariants.{Memory as MarkMemory}
use Rattle.trust_mark.specs.declared.grant.Grant.{Grant}
use Rattle.trust_mark.specs.declared.mark.Mark.{Mark}
use Rattle.trust_mark.specs.declared.signed.Signed.{Signed}

-- ---- readings

-- both values, or the fault of the second
abbrev pub Paired : {A B E : Type 0} → A → Result B E → Result (A × B) E → Type 0
Paired first second (Ok pair) = (pair.0 ≡ first) × (second ≡ Ok pair.1)
Paired first second (Err fault) = second ≡ Err fault

-- who grants a mark, to whom, and of which type, or the first fault (OpenID Federation 1.0 section 7.1)
unfoldable pub grant_in : List Member → Result Grant MarkFault
grant_in members = do
  iss ← claim (codes "iss") identifier members
  sub ← claim (codes "sub") identifier members
  mark_type ← claim (codes "trust_mark_type") any_text members
  Ok (record { iss = iss; sub = sub; mark_type = mark_type })

-- the grant of a mark
abbrev pub grant_of : Mark → Grant
grant_of mark = record { iss = mark.iss; sub = mark.sub; mark_type = mark.mark_type }

-- the mark of a grant
abbrev pub marked : Grant → ℕ → Option ℕ → Option (List ℕ) → Mark
marked g iat exp delegation = record { iss = g.iss; sub = g.sub; mark_type = g.mark_type; iat = iat; exp = exp; delegation = delegation }

-- what was read is kept with the parts that it was read from, unless memory was wanting
abbrev pub Keeps : {X : Type 0} → Compact → Result X MarkFault → Result (Option (Signed X)) NoMemory → Type 0
Keeps compact (Ok claims) kept = kept ≡ Ok (Some (record { compact = compact; claims = claims }))
Keeps compact (Err MarkMemory) kept = kept ≡ Err (record {})
Keeps compact (Err fault) kept = kept ≡ Ok None

-- ---- checks

-- the mark's delegation reads as this one
pub record Carries (mark : Mark) (delegation : Signed Mark) : Type 0 where
  pub text : List ℕ
  pub there : mark.delegation ≡ Some text
  pub read : IsReading delegation_of text (Some delegation)
