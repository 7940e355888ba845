-- That a round follows its session, from one answer to the next.
use Rattle.std.proofs.Common.{◌≡◌, ℕ, List, [], ◌∷◌, ◌++◌, ◌&&◌, map, Bool, true, false, cond, Option, Some, None, refl, sym, ap, ◌∙◌, subst, inl, inr, ⊎_elim, ◌⊎◌, bytes_eq, true≢false}
use Rattle.std.specs.Prelude.{find, option_map}
use Rattle.std.specs.List.{list_any}
use Rattle.std.proofs.lemmas.List.{map-append}
use Rattle.std.proofs.lemmas.List.Elements.{filter_map-append}
use Rattle.entity_statement.specs.Claims.{Identifier}
use Rattle.fed_json.proofs.Order.{bytes_eq-itself, equal-bytes_eq}
use Rattle.chain_climb.specs.declared.answer.Report.{Report}
use Rattle.chain_climb.specs.declared.answer.PageAnswer.{PageAnswer}
use Rattle.chain_climb.specs.declared.answer.Verdict.{Verdict}
use Rattle.chain_climb.specs.declared.want.Bounds.{Bounds}
use Rattle.chain_climb.specs.declared.want.Want.{Want}
use Rattle.chain_climb.specs.declared.want.Want.TheVariants.{Judge}
use Rattle.chain_climb.specs.Climbs.{Findings, Need, Step, judge, need, needed, needed_by}
use Rattle.chain_climb.specs.Elements.{Among}
use Rattle.chain_climb.specs.Sessions.{Extends, IsNextBy, IsNoChain, IsPageAnswer, Search, answer_to, answers_page, begun, is_same, page_of, want_of}
use Rattle.chain_climb.proofs.Elements.{among-left, among-right, among-split}
use Rattle.chain_climb.proofs.WalkLaws.{answer-more, extends-less}
use Rattle.resolve_round.specs.Courses.{first_after, first_needs}
use Rattle.resolve_round.specs.Following.{Follows}
use Rattle.resolve_round.specs.Rounds.{need_url}
use Rattle.resolve_round.proofs.Elements.{map-among}
use Rattle.resolve_round.proofs.Following.{first-one, first-same, needed-more, page-more, path-more}
use Rattle.resolve_round.proofs.HintLaws.{and-left, and-right}
use Rattle.resolve_round.proofs.RoundLaws.{first-all}

-- ---- URLs

subset_by : (b : Bool) (earlier : List (List ℕ)) (x : Need) (pages : List Need) (url : List ℕ) → (Among url (map need_url (first_after earlier pages)) → Among url (map need_url pages))
    → (Among url (map need_url (first_after (x.url ∷ earlier) pages)) → Among url (map need_url pages))
    → Among url (map need_url (cond b (first_after earlier pages) (x ∷ first_after (x.url ∷ earlier) pages))) → Among url (map need_url (x ∷ pages))
subset_by true earlier x pages url old new among = inr (old among)
subset_by false earlier x pages url old new (inl here) = inl here
subset_by false earlier x pages url old new (inr among) = inr (new among)

-- what is needed first is needed
pub first-needed : (earlier : List (List ℕ)) (pages : List Need) (url : List ℕ) → Among url (map need_url (first_after earlier pages)) → Among url (map need_url pages)
first-needed earlier [] url among = among
first-needed earlier (x ∷ pages) url among =
    subset_by (list_any (bytes_eq x.url) earlier) earlier x pages url (first-needed earlier pages url) (first-needed (x.url ∷ earlier) pages url) among

-- what is needed has the URL of what is needed first
pub needed-first : (pages : List Need) (url : List ℕ) → Among url (map need_url pages) → Among url (map need_url (first_needs pages))
needed-first pages url among =
    let page = map-among need_url url pages among in
    subst (λ u. Among u (map need_url (first_needs pages))) (sym page.2) (⊎_elim (λ none. absurd none) (λ met. met) (first-all [] pages page.0 page.1))

-- ---- answers

answer_by : (b : Bool) (x a : PageAnswer) (pages : List PageAnswer) (page : Need) (answer : Report) → answers_page page a ≡ b
    → (option_map (λ y. y.answer) (find (answers_page page) (pages ++ x ∷ [])) ≡ Some answer → (option_map (λ y. y.answer) (find (answers_page page) pages) ≡ Some answer) ⊎ (page ≡ page_of x))
    → option_map (λ y. y.answer) (cond b (Some a) (find (answers_page page) (pages ++ x ∷ []))) ≡ Some answer
    → (option_map (λ y. y.answer) (cond b (Some a) (find (answers_page page) pages)) ≡ Some answer) ⊎ (page ≡ page_of x)
answer_by true x a pages page answer is later gives = inl gives
answer_by false x a pages page answer is later gives = later gives

same-need : (a b : Need) → is_same a b ≡ true → a ≡ b
same-need a b is =
    let front = and-left (bytes_eq a.issuer b.issuer && bytes_eq a.subject b.subject) (bytes_eq a.url b.url) is in
    let one : a.issuer ≡ b.issuer = equal-bytes_eq a.issuer b.issuer (and-left (bytes_eq a.issuer b.issuer) (bytes_eq a.subject b.subject) front) in
    let two : a.subject ≡ b.subject = equal-bytes_eq a.subject b.subject (and-right (bytes_eq a.issuer b.issuer) (bytes_eq a.subject b.subject) front) in
    let three : a.url ≡ b.url = equal-bytes_eq a.url b.url (and-right (bytes_eq a.issuer b.issuer && bytes_eq a.subject b.subject) (bytes_eq a.url b.url) is) in
    let e : record { issuer = a.issuer; subject = a.subject; url = a.url } ≡ record { issuer = b.issuer; subject = b.subject; url = b.url } = cc in e

last_by : (b : Bool) (x : PageAnswer) (page : Need) (answer : Report) → answers_page page x ≡ b → option_map (λ y. y.answer) (cond b (Some x) None) ≡ Some answer
    → (option_map (λ (y : PageAnswer). y.answer) None ≡ Some answer) ⊎ (page ≡ page_of x)
last_by true x page answer is gives = inr (same-need page (page_of x) is)
last_by false x page answer is gives = inl gives

-- an answer is an earlier one, or the last
pub answer-split : (pages : List PageAnswer) (x : PageAnswer) (page : Need) (answer : Report) → answer_to (pages ++ x ∷ []) page ≡ Some answer → (answer_to pages page ≡ Some answer) ⊎ (page ≡ page_of x)
unfolding answer_to
answer-split [] x page answer gives = last_by (answers_page page x) x page answer refl gives
answer-split (a ∷ pages) x page answer gives = answer_by (answers_page page a) x a pages page answer refl (answer-split pages x page answer) gives

no-answer : (page : Need) (answer : Report) → answer_to [] page ≡ Some answer → ⊥
unfolding answer_to
no-answer page answer gives = cc gives

last_new : (b : Bool) (x : PageAnswer) → b ≡ true → option_map (λ (y : PageAnswer). y.answer) (cond b (Some x) None) ≡ Some x.answer
last_new true x is = refl
last_new false x is = absurd (true≢false (sym is))

same-self : (page : Need) → is_same page page ≡ true
same-self page = rw (bytes_eq-itself page.issuer, bytes_eq-itself page.subject, bytes_eq-itself page.url) refl

new_by : (b : Bool) (a x : PageAnswer) (o p : Option PageAnswer) → option_map (λ (y : PageAnswer). y.answer) (cond b (Some a) o) ≡ None
    → (option_map (λ (y : PageAnswer). y.answer) o ≡ None → option_map (λ (y : PageAnswer). y.answer) p ≡ Some x.answer) → option_map (λ (y : PageAnswer). y.answer) (cond b (Some a) p) ≡ Some x.answer
new_by true a x o p none later = cc none
new_by false a x o p none later = later none

-- the last answer is that to its page, where there was none
pub last-answer : (pages : List PageAnswer) (x : PageAnswer) → answer_to pages (page_of x) ≡ None → answer_to (pages ++ x ∷ []) (page_of x) ≡ Some x.answer
unfolding answer_to
last-answer [] x new = last_new (is_same (page_of x) (page_of x)) x (same-self (page_of x))
last-answer (a ∷ pages) x new =
    new_by (answers_page (page_of x) a) a x (find (answers_page (page_of x)) pages) (find (answers_page (page_of x)) (pages ++ x ∷ [])) new (last-answer pages x)

-- ---- a search that has no answer

none-needed : (pages : List Need) → ((page : Need) → Among page pages → ⊥) → first_needs pages ≡ []
none-needed [] none = refl
none-needed (page ∷ pages) none = absurd (none page (inl refl))

pub follows-begun : (leaf anchor : Identifier) (bounds : Bounds) → Follows (begun leaf anchor bounds) []
follows-begun leaf anchor bounds = record {
  are = λ found want extends next. none-needed (needed next.taken) (λ page among. let a = next.stands.answered page among in no-answer page a.0 a.1);
  asked = λ page answer gives. absurd (no-answer page answer gives);
  none = λ v among. absurd among;
}

-- ---- one answer more to a page

module _ (s : Search) (x : PageAnswer) (needs : List Need) (follows : Follows s needs) (ok : IsPageAnswer x.answer)
    (stays : (found : Findings) → Extends found s.pages → IsNextBy found s (want_of (page_of x))) (new : answer_to s.pages (page_of x) ≡ None) where
  abbrev with_x : Search
  with_x = record s { pages = s.pages ++ x ∷ [] }

  answered-last : answer_to with_x.pages (page_of x) ≡ Some x.answer
  answered-last = last-answer s.pages x new

  met : (found : Findings) (want : Want) (extends : Extends found s.pages) (next : IsNextBy found s want) (url : List ℕ) → Among url (map need_url needs) → Among url (map need_url (needed next.taken))
  met found want extends next url among = first-needed [] (needed next.taken) url (subst (λ ns. Among url (map need_url ns)) (sym (follows.are found want extends next)) among)

  asked-more : (needs2 : List Need) → ((url : List ℕ) → Among url (map need_url needs) → Among url (map need_url needs2)) → Among x.url (map need_url needs2)
      → (page : Need) (answer : Report) → answer_to with_x.pages page ≡ Some answer → Among page.url (map need_url needs2)
  asked-more needs2 wider last page answer gives =
      ⊎_elim (λ old. wider page.url (follows.asked page answer old)) (λ same. subst (λ (p : Need). Among p.url (map need_url needs2)) (sym same) last) (answer-split s.pages x page answer gives)

  -- of the page that was answered, and those behind it, each has a URL that was met, or the last one
  behind-met : (found : Findings) (later : Want) (extends : Extends found with_x.pages) (after : IsNextBy found with_x later) (more : List Step)
      → after.taken ≡ (stays found (extends-less found s.pages x extends)).taken ++ need (page_of x) ∷ more → (y : Need) → Among y (needed more)
      → Among y.url (map need_url needs) ⊎ (y.url ≡ x.url)
  behind-met found later extends after more is y among =
      let next = stays found (extends-less found s.pages x extends) in
      let all : needed after.taken ≡ needed next.taken ++ page_of x ∷ needed more = needed-more next.taken after.taken (page_of x) more is in
      let there : Among y (needed after.taken) = subst (Among y) (sym all) (among-right y (needed next.taken) (page_of x ∷ needed more) (inr among)) in
      let a = after.stands.answered y there in
      ⊎_elim (λ old. inl (follows.asked y a.0 old)) (λ same. inr (ap need_url same)) (answer-split s.pages x y a.0 a.1)

  more-of : (found : Findings) (later : Want) (extends : Extends found with_x.pages) (after : IsNextBy found with_x later)
      → (more : List Step) × (after.taken ≡ (stays found (extends-less found s.pages x extends)).taken ++ need (page_of x) ∷ more)
  more-of found later extends after =
      page-more found s with_x (page_of x) later (stays found (extends-less found s.pages x extends)) after refl refl refl
      (λ q answer gives. answer-more s.pages x q answer gives) x.answer answered-last ok refl follows.none

  -- its URL was asked before
  pub follows-again : Among x.url (map need_url needs) → Follows with_x needs
  follows-again known = record {
    are = λ found later extends after.
        let next = stays found (extends-less found s.pages x extends) in
        let more = more-of found later extends after in
        let url = met found (want_of (page_of x)) (extends-less found s.pages x extends) next in
        ap first_needs (needed-more next.taken after.taken (page_of x) more.0 more.1)
        ∙ first-same [] (needed next.taken) (page_of x ∷ needed more.0)
        (λ y among. inr (⊎_elim (λ same. url y.url (subst (λ (p : Need). Among p.url (map need_url needs)) (sym same) known))
        (λ there. ⊎_elim (λ old. url y.url old) (λ one. url y.url (subst (λ u. Among u (map need_url needs)) (sym one) known)) (behind-met found later extends after more.0 more.1 y there)) among))
        ∙ follows.are found (want_of (page_of x)) (extends-less found s.pages x extends) next;
    asked = asked-more needs (λ url among. among) known;
    none = follows.none;
  }

  -- it wasn't
  pub follows-new : ¬ Among x.url (map need_url needs) → Follows with_x (needs ++ page_of x ∷ [])
  follows-new fresh = record {
    are = λ found later extends after.
        let next = stays found (extends-less found s.pages x extends) in
        let more = more-of found later extends after in
        let is = follows.are found (want_of (page_of x)) (extends-less found s.pages x extends) next in
        let url = met found (want_of (page_of x)) (extends-less found s.pages x extends) next in
        ap first_needs (needed-more next.taken after.taken (page_of x) more.0 more.1)
        ∙ first-one [] (needed next.taken) (page_of x) (needed more.0)
        (λ m. ⊎_elim (λ none. none) (λ there. fresh (subst (λ ns. Among x.url (map need_url ns)) is (needed-first (needed next.taken) x.url there))) m)
        (λ y among. ⊎_elim (λ old. inl (inr (url y.url old))) (λ one. inr one) (behind-met found later extends after more.0 more.1 y among))
        ∙ ap (λ ns. ns ++ page_of x ∷ []) is;
    asked =
        asked-more (needs ++ page_of x ∷ [])
        (λ url among. subst (Among url) (sym (map-append need_url needs (page_of x ∷ []))) (among-left url (map need_url needs) (x.url ∷ []) among))
        (subst (Among x.url) (sym (map-append need_url needs (page_of x ∷ []))) (among-right x.url (map need_url needs) (x.url ∷ []) (inl refl)));
    none = follows.none;
  }

-- ---- one verdict more

module _ (s : Search) (v : Verdict) (needs : List Need) (follows : Follows s needs) (ok : IsNoChain v.answer)
    (stays : (found : Findings) → Extends found s.pages → IsNextBy found s (Judge v.path)) where
  abbrev with_v : Search
  with_v = record s { verdicts = s.verdicts ++ v ∷ [] }

  none-more : (w : Verdict) → Among w with_v.verdicts → IsNoChain w.answer
  none-more w among = ⊎_elim (λ old. follows.none w old) (λ last. ⊎_elim (λ same. subst (λ (u : Verdict). IsNoChain u.answer) (sym same) ok) (λ none. absurd none) last) (among-split w s.verdicts (v ∷ []) among)

  pub follows-verdict : Follows with_v needs
  follows-verdict = record {
    are = λ found later extends after.
        let next = stays found (record { agrees = extends.agrees }) in
        let more = path-more found s with_v v.path later next after refl refl refl (λ q answer gives. gives) v refl none-more in
        let all : needed after.taken ≡ needed next.taken ++ needed more.0 = ap needed more.1 ∙ filter_map-append needed_by next.taken (judge _ ∷ more.0) in
        let is = follows.are found (Judge v.path) (record { agrees = extends.agrees }) next in
        ap first_needs all
        ∙ first-same [] (needed next.taken) (needed more.0)
        (λ y among.
        let there : Among y (needed after.taken) = subst (Among y) (sym all) (among-right y (needed next.taken) (needed more.0) among) in
        let a = after.stands.answered y there in
        inr (first-needed [] (needed next.taken) y.url (subst (λ ns. Among y.url (map need_url ns)) (sym is) (follows.asked y a.0 a.1))))
        ∙ is;
    asked = follows.asked;
    none = none-more;
  }
