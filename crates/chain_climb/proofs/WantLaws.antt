-- What a want says of the place at which a session stands.
use Rattle.std.proofs.Common.{◌≡◌, ◌∙◌, ap, subst, sym, refl, List, ℕ, [], Bool, true, false, cond, Option, Some, None, bytes_eq, get_or}
use Rattle.entity_statement.specs.Claims.{Identifier}
use Rattle.chain_climb.specs.declared.path.Path.{Path}
use Rattle.chain_climb.specs.declared.facing.Facing.{Facing}
use Rattle.chain_climb.specs.declared.facing.Facing.TheVariants.{Passed, Wants as FacingWants, Spent as AllSpent, Adds}
use Rattle.chain_climb.specs.declared.answer.Answer.{Answer}
use Rattle.chain_climb.specs.declared.answer.Report.{Report}
use Rattle.chain_climb.specs.declared.want.Want.{Want}
use Rattle.chain_climb.specs.declared.want.Want.TheVariants.{Config, Superior, Judge as JudgePath}
use Rattle.chain_climb.specs.declared.place.Stage.{Stage}
use Rattle.chain_climb.specs.declared.place.Stage.TheVariants.{Leaf, Hint, Judge, Found, Ended}
use Rattle.chain_climb.specs.declared.state.State.{State}
use Rattle.chain_climb.specs.Climbs.{Findings, Need, Step, page_named, through_hint, with_chain}
use Rattle.chain_climb.specs.Facings.{face_of}
use Rattle.chain_climb.specs.Sessions.{Takes, TakesPage, answer_to, report_in}
use Rattle.chain_climb.specs.Walks.{HasTakenPage, HasTakenVerdict, IsGiven, IsStanding, StopsAt, StopsAtHint, WaitsForPage, facing_want, leaf_want, path_at, route, search_of, wanted, wanted_at}
use Rattle.chain_climb.proofs.FacingLaws.{Faces, hint-faces}
use Rattle.chain_climb.proofs.NextLaws.{hint-at}

module _ (s : State) where
  wanted-stage : wanted s ≡ wanted_at s.place.stage s
  unfolding wanted
  wanted-stage = refl

  config_waits : (stage : Stage) (entity : Identifier) (url : List ℕ) → wanted_at stage s ≡ Config entity url → WaitsForPage stage
  config_waits Leaf entity url is = tt
  config_waits Hint entity url is = tt
  config_waits Judge entity url is = absurd (cc is)
  config_waits Found entity url is = absurd (cc is)
  config_waits Ended entity url is = absurd (cc is)

  superior_waits : (stage : Stage) (superior subject : Identifier) (url : List ℕ) → wanted_at stage s ≡ Superior superior subject url → WaitsForPage stage
  superior_waits Leaf superior subject url is = tt
  superior_waits Hint superior subject url is = tt
  superior_waits Judge superior subject url is = absurd (cc is)
  superior_waits Found superior subject url is = absurd (cc is)
  superior_waits Ended superior subject url is = absurd (cc is)

  pub config-waits : (want : Want) (entity : Identifier) (url : List ℕ) → want ≡ wanted s → want ≡ Config entity url → WaitsForPage s.place.stage
  config-waits want entity url same is = config_waits s.place.stage entity url (sym wanted-stage ∙ sym same ∙ is)

  pub superior-waits : (want : Want) (superior subject : Identifier) (url : List ℕ) → want ≡ wanted s → want ≡ Superior superior subject url → WaitsForPage s.place.stage
  superior-waits want superior subject url same is = superior_waits s.place.stage superior subject url (sym wanted-stage ∙ sym same ∙ is)

  leaf_judges : (o : Option Report) (path : Path) → leaf_want s o ≡ JudgePath path → ⊥
  leaf_judges None path is = cc is
  leaf_judges (Some answer) path is = cc is

  page_judges : (b : Bool) (page : Need) (path : Path) → cond b (Config page.issuer page.url) (Superior page.issuer page.subject page.url) ≡ JudgePath path → ⊥
  page_judges true page path is = cc is
  page_judges false page path is = cc is

  hint_judges : (at : StopsAtHint s.pages s.bounds.paths s.queue (path_at s.queue s.place) s.place.hint) (facing : Facing)
      → Faces s.pages s.bounds.paths (path_at s.queue s.place) (at.are).known (get_or at.hints s.place.hint []) (λ found. through_hint found (path_at s.queue s.place) (get_or at.hints s.place.hint [])) facing
      → (path : Path) → facing_want s facing ≡ JudgePath path → ⊥
  hint_judges at Passed faces path is = cc is
  hint_judges at (FacingWants want) faces path is = page_judges (bytes_eq (faces.0).issuer (faces.0).subject) faces.0 path (sym faces.1 ∙ is)
  hint_judges at AllSpent faces path is = cc is
  hint_judges at (Adds url) faces path is = cc is

  judges_at : (stage : Stage) (path : Path) → StopsAt stage (route s.leaf s.anchor) s.bounds s.pages s.queue s.place → wanted_at stage s ≡ JudgePath path → (stage ≡ Judge) × (path ≡ with_chain (path_at s.queue s.place))
  judges_at Leaf path stops is = absurd (leaf_judges (answer_to s.pages (Rattle.chain_climb.specs.Climbs.configuration_of s.leaf)) path is)
  judges_at Hint path stops is =
      let at : StopsAtHint s.pages s.bounds.paths s.queue (path_at s.queue s.place) s.place.hint = stops.1 in
      absurd (hint_judges at (face_of s.pages (path_at s.queue s.place) (get_or at.hints s.place.hint []))
      (hint-faces s.pages s.bounds.paths (path_at s.queue s.place) (at.are).known (get_or at.hints s.place.hint [])) path
      (ap (λ h. facing_want s (face_of s.pages (path_at s.queue s.place) h)) (sym (hint-at s at.hints at.are)) ∙ is))
  judges_at Judge path stops is = (refl, let e : path ≡ with_chain (path_at s.queue s.place) = cc is in e)
  judges_at Found path stops is = absurd (cc is)
  judges_at Ended path stops is = absurd (cc is)

  pub judge-at : IsStanding s → (want : Want) (path : Path) → want ≡ wanted s → want ≡ JudgePath path → (s.place.stage ≡ Judge) × (path ≡ with_chain (path_at s.queue s.place))
  judge-at st want path same is = judges_at s.place.stage path st.place.stops (sym wanted-stage ∙ sym same ∙ is)

-- ---- what was taken is what was given

module _ (s now : State) (answer : Answer) where
  taken_page : (page : Need) (report : Report) → report_in answer ≡ Some report → HasTakenPage s now (record { issuer = page.issuer; subject = page.subject; url = page.url; answer = report })
      → TakesPage (search_of s) (search_of now) page (report_in answer)
  taken_page page report says taken = subst (TakesPage (search_of s) (search_of now) page) (sym says) (taken.pages, taken.verdicts)

  pub config-given : (want : Want) (entity : Identifier) (url : List ℕ) (report : Report) → want ≡ wanted s → want ≡ Config entity url → report_in answer ≡ Some report
      → HasTakenPage s now (record { issuer = entity; subject = entity; url = url; answer = report }) → IsGiven s now answer
  config-given want entity url report same is says taken = record {
    standing = taken.standing;
    takes = subst (λ w. Takes (search_of s) (search_of now) w answer) (sym is ∙ same) (taken_page (page_named entity entity url) report says taken);
    same = taken.same;
  }

  pub superior-given : (want : Want) (superior subject : Identifier) (url : List ℕ) (report : Report) → want ≡ wanted s → want ≡ Superior superior subject url → report_in answer ≡ Some report
      → HasTakenPage s now (record { issuer = superior; subject = subject; url = url; answer = report }) → IsGiven s now answer
  superior-given want superior subject url report same is says taken = record {
    standing = taken.standing;
    takes = subst (λ w. Takes (search_of s) (search_of now) w answer) (sym is ∙ same) (taken_page (page_named superior subject url) report says taken);
    same = taken.same;
  }

  pub verdict-given : (want : Want) (path : Path) → want ≡ wanted s → want ≡ JudgePath path → HasTakenVerdict s now (record { path = path; answer = answer }) → IsGiven s now answer
  verdict-given want path same is taken = record {
    standing = taken.standing;
    takes = subst (λ w. Takes (search_of s) (search_of now) w answer) (sym is ∙ same) (taken.pages, taken.verdicts);
    same = taken.same;
  }
