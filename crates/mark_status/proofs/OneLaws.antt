-- What is heeded is a function of what was posted and got.
use Rattle.std.proofs.Common.{◌≡◌, ℕ, List, [], ◌∷◌, ◌++◌, map, Option, Some, None, refl, sym, ap, ◌∙◌, subst}
use Rattle.std.specs.Prelude.{filter, filter_map, sum_by}
use Rattle.std.specs.List.{AllZip, flat_map}
use Rattle.entity_statement.specs.declared.marks.MarkEntry.{MarkEntry}
use Rattle.mark_status.specs.declared.heeded.Heeded.{Heeded}
use Rattle.mark_status.specs.declared.post.Post.{Post}
use Rattle.mark_status.specs.declared.tell.Tell.{Tell}
use Rattle.mark_status.specs.Answers.{Asking, form_of}
use Rattle.mark_status.specs.Heeding.{Heeding, Heeds, IsLeast, end_of}
use Rattle.mark_status.specs.Posts.{post_of}
use Rattle.mark_status.specs.Tells.{IsTold, Marked, TellsAt, Told, keeps, tell_of, tests_of}
use Rattle.mark_status.proofs.HeedLaws.{least-one}

abbrev told_of : MarkEntry → List Post → Tell → ℕ → Told
told_of entry posts tell tests = record { entry = entry; posts = posts; tell = tell; tests = tests }

-- one mark is told one thing by the posts that begin with its own
tells-one : (here : Asking) (o : Option (List ℕ)) (a b : Told) (ps qs : List Post) → a.entry ≡ b.entry → TellsAt here o a → TellsAt here o b → a.posts ++ ps ≡ b.posts ++ qs
    → (a ≡ b) × (ps ≡ qs)
tells-one here None a b ps qs entry first second same =
    let posts : a.posts ≡ b.posts = first.0 ∙ sym second.0 in
    let tell : a.tell ≡ b.tell = first.1 ∙ sym second.1 in
    let tests : a.tests ≡ b.tests = first.2 ∙ sym second.2 in (
      λ i. told_of (entry i) (posts i) (tell i) (tests i),
      sym (ap (λ l. l ++ ps) first.0) ∙ same ∙ ap (λ l. l ++ qs) second.0,
    )
tells-one here (Some url) a b ps qs entry first second same =
    let p = post_of url (form_of here.mark) first.0 in
    let q = post_of url (form_of here.mark) second.0 in
    let joined : p ∷ ps ≡ q ∷ qs = sym (ap (λ l. l ++ ps) first.1) ∙ same ∙ ap (λ l. l ++ qs) second.1 in
    let post : p ≡ q = cc joined in
    let page : first.0 ≡ second.0 = ap (λ (x : Post). x.page) post in
    let posts : a.posts ≡ b.posts = first.1 ∙ ap (λ x. x ∷ []) post ∙ sym second.1 in
    let tell : a.tell ≡ b.tell = first.2 ∙ ap (tell_of here) page ∙ sym second.2 in
    let tests : a.tests ≡ b.tests = first.3 ∙ ap (tests_of here) page ∙ sym second.3 in (
      λ i. told_of (entry i) (posts i) (tell i) (tests i),
      cc joined,
    )

told-one : (t : ℕ) (m : Marked) (a b : Told) (ps qs : List Post) → IsTold t m a → IsTold t m b → a.posts ++ ps ≡ b.posts ++ qs → (a ≡ b) × (ps ≡ qs)
told-one t m a b ps qs first second same =
    let heres : Some second.here ≡ Some first.here = sym second.asks ∙ first.asks in
    let here : second.here ≡ first.here = cc heres in
    tells-one first.here first.here.endpoint a b ps qs (first.entry ∙ sym second.entry) first.tells (subst (λ (h : Asking). TellsAt h h.endpoint b) here second.tells) same

all-one : (t : ℕ) (pairs : List Marked) (xs ys : List Told) → AllZip (IsTold t) pairs xs → AllZip (IsTold t) pairs ys
    → flat_map (λ (w : Told). w.posts) xs ≡ flat_map (λ (w : Told). w.posts) ys → xs ≡ ys
all-one t [] [] [] first second same = refl
all-one t [] [] (y ∷ ys) first second same = absurd second
all-one t [] (x ∷ xs) ys first second same = absurd first
all-one t (m ∷ ms) [] ys first second same = absurd first
all-one t (m ∷ ms) (x ∷ xs) [] first second same = absurd second
all-one t (m ∷ ms) (x ∷ xs) (y ∷ ys) first second same =
    let one = told-one t m x y (flat_map (λ (w : Told). w.posts) xs) (flat_map (λ (w : Told). w.posts) ys) first.0 second.0 same in
    let later = all-one t ms xs ys first.1 second.1 one.1 in
    λ i. one.0 i ∷ later i

abbrev heeded_of : List MarkEntry → Option ℕ → List Tell → Heeded
heeded_of kept exp tells = record { kept = kept; exp = exp; tells = tells }

pub heeds-one : (here : Heeding) (posts : List Post) (tests more : ℕ) (heeded other : Heeded) → Heeds here posts tests heeded → Heeds here posts more other
    → (other ≡ heeded) × (more ≡ tests)
heeds-one here posts tests more heeded other first second =
    let told = all-one here.moment here.marked second.told first.told second.each first.each (sym second.posts_are ∙ first.posts_are) in
    let tells = second.tells_are ∙ ap (map (λ (w : Told). w.tell)) told ∙ sym first.tells_are in
    let kept : other.kept ≡ heeded.kept = second.kept_are ∙ ap (λ (ws : List Told). map (λ (w : Told). w.entry) (filter (λ (w : Told). keeps w.tell) ws)) told ∙ sym first.kept_are in
    let exp = least-one (filter_map end_of heeded.kept) other.exp heeded.exp (subst (λ (l : List MarkEntry). IsLeast (filter_map end_of l) other.exp) kept second.exp_is) first.exp_is in (
      λ i. heeded_of (kept i) (exp i) (tells i),
      second.tests_are ∙ ap (sum_by (λ (w : Told). w.tests)) told ∙ sym first.tests_are,
    )
