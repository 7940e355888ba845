-- What one mark is told.
use Rattle.std.proofs.Common.{◌≡◌, ◌≤◌, ◌+◌, ℕ, List, [], ◌∷◌, length, Bool, true, false, cond, Option, Some, None, is_some, refl, sym, ap, ◌∙◌, subst, arith}
use Rattle.std.specs.Prelude.{Result, Ok, Err, IfOk, MatchResult, OnErr, is_none}
use Rattle.std.specs.Option.{option_map_or}
use Rattle.entity_statement.specs.declared.marks.MarkEntry.{MarkEntry}
use Rattle.fed_base.specs.declared.faults.Memory.{Memory as NoMemory}
use Rattle.fed_base.specs.Counts.{CountsAtMost, counted}
use Rattle.fed_ports.specs.declared.link.LinkFault.TheVariants.{Failed}
use Rattle.fed_ports.specs.declared.page.Page.{Page}
use Rattle.fed_ports.specs.declared.page.Page.TheVariants.{Document, Refusal, Garbled, TooLong, NoRoute}
use Rattle.jwk_set.specs.declared.jwk.Jwk.{Jwk}
use Rattle.trust_mark.specs.Signed.{status_answer_of}
use Rattle.trust_mark.specs.declared.status.MarkStatus.{MarkStatus}
use Rattle.trust_mark.specs.declared.status.MarkStatus.TheVariants as status
use Rattle.trust_mark.specs.declared.status.StatusAnswer.{StatusAnswer}
use Rattle.mark_status.specs.declared.tell.Tell.{Tell}
use Rattle.mark_status.specs.declared.tell.Tell.TheVariants.{Unasked, Fault}
use Rattle.mark_status.specs.Answers.{Asking, form_of, is_about, tests_of_text, told_by}
use Rattle.mark_status.specs.Heeding.{Around}
use Rattle.mark_status.specs.Posts.{Asks, BreaksOff, Makes, Views, failures, post_of}
use Rattle.mark_status.specs.Stages.{Hears}
use Rattle.mark_status.specs.Tells.{TellsAt, Told, is_asked, is_fault, tell_of, tell_of_status, tests_of}
use Rattle.mark_status.proofs.PostLaws.{fault-made, made-broken, none-made, page-made}
use Rattle.sealed.specs.Tests.{key_in, tests_under}

-- ---- at most one post and one test

at_most_one : (b : Bool) → cond b 1 0 ≤ 1
at_most_one true = omega arith
at_most_one false = omega arith

few-under : (keys : List Jwk) (text : List ℕ) → tests_under keys text ≤ 1
unfolding tests_under
few-under keys text = at_most_one (is_some (key_in keys text))

few-of-answer : (here : Asking) (text : List ℕ) (o : Option StatusAnswer) → option_map_or (λ a. cond (is_about here a) (tests_under here.keys text) 0) o 0 ≤ 1
few-of-answer here text None = omega arith
few-of-answer here text (Some a) = by (is_about here a)
  where
    by : (b : Bool) → cond b (tests_under here.keys text) 0 ≤ 1
    by true = few-under here.keys text
    by false = omega arith

few-of-text : (here : Asking) (text : List ℕ) → tests_of_text here text ≤ 1
unfolding tests_of_text
few-of-text here text = few-of-answer here text (status_answer_of text)

few-of-page : (here : Asking) (page : Option Page) → tests_of here page ≤ 1
few-of-page here None = omega arith
few-of-page here (Some (Document text)) = few-of-text here text
few-of-page here (Some (Refusal n)) = omega arith
few-of-page here (Some Garbled) = omega arith
few-of-page here (Some TooLong) = omega arith
few-of-page here (Some NoRoute) = omega arith

pub few-tests : (here : Asking) (told : Told) (o : Option (List ℕ)) → TellsAt here o told → told.tests ≤ 1
few-tests here told None tells = let none = tells.2 in omega (arith, none)
few-tests here told (Some url) tells = subst (λ n. n ≤ 1) (sym tells.3) (few-of-page here tells.0)

pub few-posts : (here : Asking) (told : Told) (o : Option (List ℕ)) → TellsAt here o told → length told.posts ≤ 1
few-posts here told None tells = subst (λ ps. length ps ≤ 1) (sym tells.0) (omega arith)
few-posts here told (Some url) tells = subst (λ ps. length ps ≤ 1) (sym tells.1) (omega arith)

-- ---- a tell counts its post, and its failure

asked-status : (o : Option MarkStatus) → is_asked (tell_of_status o) ≡ true
asked-status None = refl
asked-status (Some status.Active) = refl
asked-status (Some status.Expired) = refl
asked-status (Some status.Revoked) = refl
asked-status (Some status.Invalid) = refl

asked-page : (here : Asking) (page : Option Page) → is_asked (tell_of here page) ≡ true
asked-page here None = refl
asked-page here (Some (Document text)) = asked-status (told_by here text)
asked-page here (Some (Refusal n)) = refl
asked-page here (Some Garbled) = refl
asked-page here (Some TooLong) = refl
asked-page here (Some NoRoute) = refl

fault-status : (o : Option MarkStatus) → is_fault (tell_of_status o) ≡ false
fault-status None = refl
fault-status (Some status.Active) = refl
fault-status (Some status.Expired) = refl
fault-status (Some status.Revoked) = refl
fault-status (Some status.Invalid) = refl

fault-page : (here : Asking) (page : Option Page) → is_fault (tell_of here page) ≡ is_none page
fault-page here None = refl
fault-page here (Some (Document text)) = fault-status (told_by here text)
fault-page here (Some (Refusal n)) = refl
fault-page here (Some Garbled) = refl
fault-page here (Some TooLong) = refl
fault-page here (Some NoRoute) = refl

pub posts-asked : (here : Asking) (told : Told) (o : Option (List ℕ)) → TellsAt here o told → length told.posts ≡ cond (is_asked told.tell) 1 0
posts-asked here told None tells = rw (tells.0, tells.1) refl
posts-asked here told (Some url) tells = ap length tells.1 ∙ ap (λ b. cond b 1 0) (sym (ap is_asked tells.2 ∙ asked-page here tells.0))

counted_one : (a b : Bool) → b ≡ a → 0 + cond a 1 0 ≡ cond b 1 0
counted_one true b same = rw same refl
counted_one false b same = rw same refl

pub failures-told : (here : Asking) (told : Told) (o : Option (List ℕ)) → TellsAt here o told → failures told.posts ≡ cond (is_fault told.tell) 1 0
failures-told here told None tells = rw (tells.0, tells.1) refl
failures-told here told (Some url) tells = ap failures tells.1 ∙ counted_one (is_none tells.0) (is_fault told.tell) (ap is_fault tells.2 ∙ fault-page here tells.0)

-- ---- what is heard

module _ {A : Type 0} (views : Views A) (here : Asking) (entry : MarkEntry) where
  pub unasked-heard : (a : Around A) → here.endpoint ≡ None → Hears views here entry a a Unasked
  unasked-heard a none =
      let told : Told = record { entry = entry; posts = []; tell = Unasked; tests = 0 } in
      let tells : TellsAt here here.endpoint told = subst (λ o. TellsAt here o told) (sym none) (refl, refl, refl) in
      record { told = told; entry_is = refl; tell_is = refl; tells = tells; made = none-made views a.asker; tested = refl }

  -- a post was made at the endpoint
  module _ (url body : List ℕ) (named : here.endpoint ≡ Some url) (form : body ≡ form_of here.mark) (a b : Around A) where
    heard : (page : Option Page) → Makes views a.asker (post_of url body page ∷ []) b.asker → b.tests ≡ counted (tests_of here page) a.tests → Hears views here entry a b (tell_of here page)
    heard page made tested =
        let told : Told = record { entry = entry; posts = post_of url body page ∷ []; tell = tell_of here page; tests = tests_of here page } in
        let at : TellsAt here (Some url) told = (page, ap (λ x. post_of url x page ∷ []) form, refl, refl) in
        let tells : TellsAt here here.endpoint told = subst (λ o. TellsAt here o told) (sym named) at in
        record { told = told; entry_is = refl; tell_is = refl; tells = tells; made = made; tested = tested }

    pub page-heard : (page : Page) (out : Result Tell NoMemory) → views.gave a.asker b.asker url body (Ok page) → Asks (views.asked a.asker) url body (Ok page) (views.asked b.asker)
        → IfOk out (λ tell. tell ≡ tell_of here (Some page))
        → MatchResult out (λ _. b.tests ≡ counted (tests_of here (Some page)) a.tests) (λ _. b.tests ≡ a.tests) → IfOk out (Hears views here entry a b)
    page-heard page (Ok tell) gave asks is tested =
        subst (Hears views here entry a b) (sym is) (heard (Some page) (page-made views a.asker b.asker url body page gave asks) tested)
    page-heard page (Err e) gave asks is tested = tt

    pub fault-heard : views.gave a.asker b.asker url body (Err Failed) → Asks (views.asked a.asker) url body (Err Failed) (views.asked b.asker) → b.tests ≡ a.tests
        → Hears views here entry a b Fault
    fault-heard gave asks tested = heard None (fault-made views a.asker b.asker url body gave asks) tested

  pub heard-tested : (a b : Around A) (tell : Tell) → Hears views here entry a b tell → CountsAtMost 1 a.tests b.tests
  heard-tested a b tell hears = record { steps = hears.told.tests; within = few-tests here hears.told here.endpoint hears.tells; counts = hears.tested }

  pub heard-broken : (a b : Around A) (tell : Tell) → Hears views here entry a b tell → BreaksOff views 1 a.asker b.asker
  heard-broken a b tell hears = made-broken views 1 hears.told.posts a.asker b.asker (few-posts here hears.told here.endpoint hears.tells) hears.made

-- what holds anyway holds where there is an error
pub on_err : {X E : Type 0} {P : Type 0} (r : Result X E) → P → OnErr r P
on_err (Ok x) holds = tt
on_err (Err e) holds = holds
