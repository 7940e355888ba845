-- What the stages of a call answer; no public clause cites it.
use Rattle.std.specs.Prelude.{◌≡◌, ℕ, min, List, [], ◌∷◌, ◌++◌, Option, Some, None, if◌then◌else◌}
use Rattle.fed_base.specs.Counts.{counted}
use Rattle.entity_statement.specs.Claims.{Claims}
use Rattle.entity_statement.specs.Signed.{statement_of}
use Rattle.entity_statement.specs.Use.{status_endpoint_in}
use Rattle.entity_statement.specs.declared.marks.MarkEntry.{MarkEntry}
use Rattle.trust_mark.specs.Marks.{mark_of}
use Rattle.trust_mark.specs.declared.mark.Mark.{Mark}
use Rattle.mark_status.specs.Answers.{Asking}
use Rattle.mark_status.specs.Heeding.{Around, end_of}
use Rattle.mark_status.specs.Posts.{Makes, Views}
use Rattle.mark_status.specs.Tells.{Tells, Told, keeps}
use Rattle.mark_status.specs.declared.heeded.Heeded.{Heeded}
use Rattle.mark_status.specs.declared.issuer.Configured.{Configured}
use Rattle.mark_status.specs.declared.issuer.Named.{Named}
use Rattle.mark_status.specs.declared.question.Question.{Question}
use Rattle.mark_status.specs.declared.tell.Tell.{Tell}

-- ---- readings

-- the issuer and the end of the mark that the text is
pub record IsNamed (text : List ℕ) (named : Named) : Type 0 where
  pub mark : Mark
  pub reads : mark_of text ≡ Some mark
  pub iss : named.iss ≡ mark.iss
  pub end : named.end ≡ mark.exp

-- the endpoint and the keys in the configuration that the text is
pub record IsConfigured (text : List ℕ) (configured : Configured) : Type 0 where
  pub claims : Claims
  pub reads : statement_of text ≡ Some claims
  pub endpoint : configured.endpoint ≡ status_endpoint_in claims.metadata
  pub keys : configured.keys.keys ≡ claims.keys

-- what is asked about a mark
abbrev pub asking_by : List ℕ → Question → Asking
asking_by mark q = record { mark = mark; issuer = q.issuer; endpoint = q.endpoint; keys = q.keys.keys; moment = q.moment }

-- ---- one mark

-- the entry's mark was told this
pub record Hears {A : Type 0} (views : Views A) (here : Asking) (entry : MarkEntry) (old new : Around A) (tell : Tell) : Type 0 where
  pub told : Told
  pub entry_is : told.entry ≡ entry
  pub tell_is : told.tell ≡ tell
  pub tells : Tells here told
  pub made : Makes views old.asker told.posts new.asker
  pub tested : new.tests ≡ counted told.tests old.tests

-- nothing was heeded yet
pub record Nothing (heeded : Heeded) : Type 0 where
  pub kept : heeded.kept ≡ []
  pub exp : heeded.exp ≡ None
  pub tells : heeded.tells ≡ []

-- the less of two ends, of which either may be absent
abbrev pub least_with : Option ℕ → Option ℕ → Option ℕ
least_with None second = second
least_with (Some first) None = Some first
least_with (Some first) (Some second) = Some (min first second)

-- what was told of an entry's mark that ends then is added
pub record Adds (entry : MarkEntry) (end : Option ℕ) (tell : Tell) (old new : Heeded) : Type 0 where
  pub kept : new.kept ≡ old.kept ++ (if keeps tell then entry ∷ [] else [])
  pub exp : new.exp ≡ (if keeps tell then least_with old.exp end else old.exp)
  pub tells : new.tells ≡ old.tells ++ tell ∷ []

-- the entry's mark was asked about, and what it was told is added
pub record HeedsOne {A : Type 0} (views : Views A) (here : Asking) (entry : MarkEntry) (old new : Around A × Heeded) : Type 0 where
  pub tell : Tell
  pub hears : Hears views here entry old.0 new.0 tell
  pub adds : Adds entry (end_of entry) tell old.1 new.1
