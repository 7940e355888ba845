-- Marks that are heeded one after the other, and which of them are kept.
use Rattle.std.proofs.Common.{◌≡◌, ◌≤◌, ◌+◌, ℕ, min, List, [], ◌∷◌, ◌++◌, map, Bool, true, false, cond, Option, Some, None, refl, sym, ap, ◌∙◌, subst, arith, append-nil, leb}
use Rattle.std.specs.Prelude.{Contains, filter, filter_map}
use Rattle.std.specs.List.{flat_map, cons_option}
use Rattle.std.proofs.lemmas.Bool.{leb-false, leb-true}
use Rattle.std.proofs.lemmas.List.{map-append}
use Rattle.std.proofs.lemmas.List.Concat.{flat_map-append}
use Rattle.std.proofs.lemmas.List.Elements.{All-nil, All-push, All-weaker, All-contains, Contains-append_left, Contains-push, filter-append, filter_map-append}
use Rattle.std.proofs.lemmas.List.Sums.{sum_by_push}
use Rattle.std.proofs.lemmas.Slice.Zip.{all_zipped_more}
use Rattle.entity_statement.specs.declared.marks.MarkEntry.{MarkEntry}
use Rattle.trust_mark.proofs.CountLaws.{counted-plus}
use Rattle.mark_status.specs.declared.heeded.Heeded.{Heeded}
use Rattle.mark_status.specs.declared.post.Post.{Post}
use Rattle.mark_status.specs.Answers.{Asking, asking_of}
use Rattle.mark_status.specs.Heeding.{Around, Heeding, Heeds, HeedsBy, IsLeast, end_of}
use Rattle.mark_status.specs.Posts.{Views}
use Rattle.mark_status.specs.Stages.{Adds, HeedsOne, Nothing, least_with}
use Rattle.mark_status.specs.Tells.{IsTold, Marked, Told, keeps}
use Rattle.mark_status.proofs.AnswerLaws.{by_test}
use Rattle.mark_status.proofs.PostLaws.{more-made, none-made}
use Rattle.fed_base.specs.Counts.{counted}

-- ---- the least end

least-both : (ns : List ℕ) (a n : ℕ) → IsLeast ns (Some a) → IsLeast (ns ++ n ∷ []) (Some (min a n))
least-both ns a n is = by_test (leb a n)
    (λ so.
    let less = leb-true a n so in
    let same : min a n ≡ a = omega (arith, less) in
    subst (λ l. IsLeast (ns ++ n ∷ []) (Some l)) (sym same) (Contains-append_left ns (n ∷ []) a is.0, All-push (λ x. a ≤ x) ns n is.1 less))
    (λ not_so.
    let strict = leb-false a n not_so in
    let more : n ≤ a = omega (arith, strict) in
    let same : min a n ≡ n = omega (arith, more) in
    subst (λ l. IsLeast (ns ++ n ∷ []) (Some l)) (sym same)
    (Contains-push ns n, All-push (λ x. n ≤ x) ns n (All-weaker (λ x. a ≤ x) (λ x. n ≤ x) (λ x less. omega (arith, less, more)) ns is.1) (omega arith)))

least-add : (ns : List ℕ) (o e : Option ℕ) → IsLeast ns o → IsLeast (ns ++ cons_option e []) (least_with o e)
least-add ns None None is = append-nil ns ∙ is
least-add ns None (Some n) is =
    subst (λ (l : List ℕ). IsLeast (l ++ n ∷ []) (Some n)) (sym is) (Contains-push [] n, All-push (λ x. n ≤ x) [] n (All-nil (λ x. n ≤ x)) (omega arith))
least-add ns (Some a) None is = subst (λ l. IsLeast l (Some a)) (sym (append-nil ns)) is
least-add ns (Some a) (Some n) is = least-both ns a n is

least-more : (keep : Bool) (kept : List MarkEntry) (entry : MarkEntry) (exp : Option ℕ) → IsLeast (filter_map end_of kept) exp
    → IsLeast (filter_map end_of (kept ++ cond keep (entry ∷ []) [])) (cond keep (least_with exp (end_of entry)) exp)
least-more true kept entry exp is =
    subst (λ ns. IsLeast ns (least_with exp (end_of entry))) (sym (filter_map-append end_of kept (entry ∷ []))) (least-add (filter_map end_of kept) exp (end_of entry) is)
least-more false kept entry exp is = subst (λ (l : List MarkEntry). IsLeast (filter_map end_of l) exp) (sym (append-nil kept)) is

pub least-one : (ns : List ℕ) (o e : Option ℕ) → IsLeast ns o → IsLeast ns e → o ≡ e
least-one ns None None is other = refl
least-one ns None (Some n) is other = absurd (let less = subst (λ (l : List ℕ). Contains l n) is other.0 in omega (arith, less.1))
least-one ns (Some a) None is other = absurd (let less = subst (λ (l : List ℕ). Contains l a) other is.0 in omega (arith, less.1))
least-one ns (Some a) (Some n) is other =
    let first = All-contains (λ x. a ≤ x) ns n is.1 other.0 in
    let second = All-contains (λ x. n ≤ x) ns a other.1 is.0 in
    ap Some (omega (arith, first, second))

-- ---- one mark more

abbrev pub heeding : List Marked → ℕ → Heeding
heeding marked t = record { marked = marked; moment = t }

kept-more : (told : List Told) (w : Told) (b : Bool) → keeps w.tell ≡ b
    → map (λ (x : Told). x.entry) (filter (λ (x : Told). keeps x.tell) (told ++ w ∷ [])) ≡ map (λ (x : Told). x.entry) (filter (λ (x : Told). keeps x.tell) told) ++ cond b (w.entry ∷ []) []
kept-more told w b is =
    ap (map (λ (x : Told). x.entry)) (filter-append (λ (x : Told). keeps x.tell) told (w ∷ []))
    ∙ map-append (λ (x : Told). x.entry) (filter (λ (x : Told). keeps x.tell) told) (filter (λ (x : Told). keeps x.tell) (w ∷ []))
    ∙ ap (λ l. map (λ (x : Told). x.entry) (filter (λ (x : Told). keeps x.tell) told) ++ l) (last b is)
  where
    last : (b : Bool) → keeps w.tell ≡ b → map (λ (x : Told). x.entry) (filter (λ (x : Told). keeps x.tell) (w ∷ [])) ≡ cond b (w.entry ∷ []) []
    last true is = rw is refl
    last false is = rw is refl

module _ (t : ℕ) (marked : List Marked) (m : Marked) (posts : List Post) (tests : ℕ) (old new : Heeded) (w : Told) (all : Heeds (heeding marked t) posts tests old) where
  pub heeds-more : IsTold t m w → Adds m.0 (end_of m.0) w.tell old new → Heeds (heeding (marked ++ m ∷ []) t) (posts ++ w.posts) (tests + w.tests) new
  heeds-more is adds = record {
    told = all.told ++ w ∷ [];
    each = all_zipped_more (IsTold t) marked all.told m w all.each is;
    posts_are = ap (λ ps. ps ++ w.posts) all.posts_are ∙ sym (flat_map-append (λ (x : Told). x.posts) all.told (w ∷ []) ∙ ap (λ ps. flat_map (λ (x : Told). x.posts) all.told ++ ps) (append-nil w.posts));
    tests_are = ap (λ n. n + w.tests) all.tests_are ∙ sym (sum_by_push (λ (x : Told). x.tests) all.told w);
    tells_are = adds.tells ∙ ap (λ l. l ++ w.tell ∷ []) all.tells_are ∙ sym (map-append (λ (x : Told). x.tell) all.told (w ∷ []));
    kept_are =
        adds.kept ∙ ap (λ l. l ++ cond (keeps w.tell) (m.0 ∷ []) []) all.kept_are
        ∙ ap (λ e. map (λ (x : Told). x.entry) (filter (λ (x : Told). keeps x.tell) all.told) ++ cond (keeps w.tell) (e ∷ []) []) (sym is.entry)
        ∙ sym (kept-more all.told w (keeps w.tell) refl);
    exp_is =
        subst (λ (l : List MarkEntry). IsLeast (filter_map end_of l) new.exp) (sym adds.kept)
        (subst (IsLeast (filter_map end_of (old.kept ++ cond (keeps w.tell) (m.0 ∷ []) []))) (sym adds.exp) (least-more (keeps w.tell) old.kept m.0 old.exp all.exp_is));
  }

pub none-heeded : (t : ℕ) (heeded : Heeded) → Nothing heeded → Heeds (heeding [] t) [] 0 heeded
none-heeded t heeded none = record {
  told = [];
  each = tt;
  posts_are = refl;
  tests_are = refl;
  tells_are = none.tells;
  kept_are = none.kept;
  exp_is = subst (λ (l : List MarkEntry). IsLeast (filter_map end_of l) heeded.exp) (sym none.kept) (subst (IsLeast []) (sym none.exp) refl);
}

module _ {A : Type 0} (views : Views A) (t : ℕ) where
  pub none-by : (a : Around A) (heeded : Heeded) → Nothing heeded → HeedsBy views (heeding [] t) a a heeded
  none-by a heeded none = record { posts = []; tests = 0; heeds = none-heeded t heeded none; made = none-made views a.asker; tested = refl }

  pub one-by : (marked : List Marked) (m : Marked) (here : Asking) (a : Around A) (b c : Around A × Heeded) → HeedsBy views (heeding marked t) a b.0 b.1 → asking_of m.0 m.1 t ≡ Some here
      → HeedsOne views here m.0 b c → HeedsBy views (heeding (marked ++ m ∷ []) t) a c.0 c.1
  one-by marked m here a b c all asks one =
      let hears = one.hears in
      let w = hears.told in
      let adds = subst (λ tell. Adds m.0 (end_of m.0) tell b.1 c.1) (sym hears.tell_is) one.adds in
      record {
        posts = all.posts ++ w.posts;
        tests = all.tests + w.tests;
        heeds = heeds-more t marked m all.posts all.tests b.1 c.1 w all.heeds (record { entry = hears.entry_is; here = here; asks = asks; tells = hears.tells }) adds;
        made = more-made views all.posts w.posts a.asker b.0.asker c.0.asker all.made hears.made;
        tested = hears.tested ∙ ap (counted w.tests) all.tested ∙ counted-plus w.tests all.tests a.tests;
      }
