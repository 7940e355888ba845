-- The marks up to a place, and the next one.
use Rattle.std.proofs.Common.{◌≡◌, ◌<◌, ◌≤◌, ◌+◌, ℕ, List, [], ◌∷◌, ◌++◌, length, take, get_or, Some, sym, ap, ◌∙◌, subst, arith, add-one}
use Rattle.std.specs.Prelude.{zip}
use Rattle.std.proofs.Math.Seq.{take-suc}
use Rattle.std.proofs.lemmas.List.{length-take, take_all}
use Rattle.std.proofs.lemmas.Slice.Zip.{get_or-zip, length-zip}
use Rattle.entity_statement.specs.declared.marks.MarkEntry.{MarkEntry}
use Rattle.trust_mark.proofs.CountLaws.{counted-plus}
use Rattle.mark_status.specs.declared.heeded.Heeded.{Heeded}
use Rattle.mark_status.specs.Answers.{Asking, asking_of}
use Rattle.mark_status.specs.Heeding.{Around, HeedsBy}
use Rattle.mark_status.specs.Posts.{BreaksOff, Views}
use Rattle.mark_status.specs.Stages.{HeedsOne}
use Rattle.mark_status.specs.Tells.{Marked}
use Rattle.mark_status.proofs.HeedLaws.{heeding, one-by}
use Rattle.mark_status.proofs.KeptLaws.{few-posted, few-tested}
use Rattle.mark_status.proofs.PostLaws.{later-broken, made-broken}
use Rattle.fed_base.specs.Counts.{CountsAtMost, counted}

module _ (marks : List MarkEntry) (configs : List (List ℕ)) (long : length marks ≡ length configs) where
  abbrev pairs : List Marked
  pairs = zip marks configs

  pairs-long : length pairs ≡ length marks
  pairs-long = let both = length-zip marks configs in omega (arith, both, long)

  pub all-pairs : (place : ℕ) → place ≡ length marks → take place pairs ≡ pairs
  all-pairs place end = ap (λ n. take n pairs) (end ∙ sym pairs-long) ∙ take_all (length pairs) pairs (omega arith)

  -- the pair at a place
  next-pair : (place : ℕ) (entry : MarkEntry) (config : List ℕ) → place < length marks → entry ≡ get_or marks place entry → config ≡ get_or configs place config
      → take (place + 1) pairs ≡ take place pairs ++ (entry, config) ∷ []
  next-pair place entry config within is_entry is_config =
      let at = get_or-zip marks configs place (entry, config) within (omega (arith, within, long)) in
      let same : get_or pairs place (entry, config) ≡ (entry, config) = at ∙ (λ i. (sym is_entry i, sym is_config i)) in
      ap (λ n. take n pairs) (add-one place) ∙ take-suc pairs place (entry, config) (let all = pairs-long in omega (arith, all, within)) ∙ ap (λ m. take place pairs ++ m ∷ []) same

  few-before : (place : ℕ) → place < length marks → length (take place pairs) ≤ place
  few-before place within = let all = length-take place pairs in omega (arith, all)

  module _ {A : Type 0} (views : Views A) (t place : ℕ) (within : place < length marks) (a b : Around A) (h : Heeded) (all : HeedsBy views (heeding (take place pairs) t) a b h) where
    pub next-by : (entry : MarkEntry) (config : List ℕ) (here : Asking) (c : Around A) (h' : Heeded) → entry ≡ get_or marks place entry → config ≡ get_or configs place config
        → asking_of entry config t ≡ Some here → HeedsOne views here entry (b, h) (c, h') → HeedsBy views (heeding (take (place + 1) pairs) t) a c h'
    next-by entry config here c h' is_entry is_config asks one =
        subst (λ (ms : List Marked). HeedsBy views (heeding ms t) a c h') (sym (next-pair place entry config within is_entry is_config))
        (one-by views t (take place pairs) (entry, config) here a (b, h) (c, h') all asks one)

    few_posts : length all.posts ≤ place
    few_posts = let few = few-posted _ all.posts all.tests h all.heeds in let short = few-before place within in omega (arith, few, short)

    few_tests : all.tests ≤ place
    few_tests = let few = few-tested _ all.posts all.tests h all.heeds in let short = few-before place within in omega (arith, few, short)

    pub before-broken : BreaksOff views (length marks) a.asker b.asker
    before-broken = let few = few_posts in made-broken views (length marks) all.posts a.asker b.asker (omega (arith, few, within)) all.made

    pub next-broken : (c : A) → BreaksOff views 1 b.asker c → BreaksOff views (length marks) a.asker c
    next-broken c broken = later-broken views place 1 (length marks) all.posts a.asker b.asker c few_posts (omega (arith, within)) all.made broken

    pub before-tested : CountsAtMost (length marks) a.tests b.tests
    before-tested = record { steps = all.tests; within = let few = few_tests in omega (arith, few, within); counts = all.tested }

    pub next-tested : (n : ℕ) → CountsAtMost 1 b.tests n → CountsAtMost (length marks) a.tests n
    next-tested n one = record {
      steps = all.tests + one.steps;
      within = let few = few_tests in let less = one.within in omega (arith, few, less, within);
      counts = one.counts ∙ ap (counted one.steps) all.tested ∙ counted-plus one.steps all.tests a.tests;
    }
