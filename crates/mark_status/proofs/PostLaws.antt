-- Posts that are made one after the other.
use Rattle.std.proofs.Common.{◌≡◌, ◌≤◌, ◌+◌, ℕ, zero, suc, List, [], ◌∷◌, ◌++◌, length, Option, Some, None, inl, inr, refl, sym, ap, ◌∙◌, subst, arith, append-nil, append_assoc, length-append}
use Rattle.std.specs.Prelude.{Ok, Err}
use Rattle.std.proofs.lemmas.List.Sums.{sum_by-append}
use Rattle.fed_base.specs.Counts.{counted, next_count}
use Rattle.fed_ports.specs.Lists.{Added}
use Rattle.fed_ports.specs.declared.link.LinkFault.TheVariants.{Failed, Memory}
use Rattle.fed_ports.specs.declared.page.Page.{Page}
use Rattle.trust_mark.proofs.CountLaws.{counted-plus}
use Rattle.mark_status.specs.Posts.{AnswersEach, Answering, Asks, BreaksOff, CountsFaults, Makes, Views, failures, post_of}
use Rattle.mark_status.specs.declared.post.Post.{Post}

-- ---- counts

-- a greater count stays greater
counted_later : (steps a b : ℕ) → a ≤ b → counted steps a ≤ counted steps b
counted_later zero a b less = less
counted_later (suc steps) a b less = let more = counted_later steps a b less in omega (arith, more)

pub no-faults : (n : ℕ) → CountsFaults 0 n n
no-faults n = record { rose = omega arith; stays = λ _. refl }

pub one-fault : (before now : ℕ) → next_count before ≤ now → CountsFaults 1 before now
one-fault before now rose = record { rose = rose; stays = λ bad. absurd (cc bad) }

pub more-faults : (first second a b c : ℕ) → CountsFaults first a b → CountsFaults second b c → CountsFaults (first + second) a c
more-faults first second a b c before after = record {
  rose =
      let plus = counted-plus second first a in
      let later = counted_later second (counted first a) b before.rose in
      let rose = after.rose in
      omega (arith, plus, later, rose);
  stays = λ none. after.stays (omega (arith, none)) ∙ before.stays (omega (arith, none));
}

-- ---- lists

added_none : {X : Type 0} (told : Option (List X)) → Added told [] told
added_none None = refl
added_none (Some xs) = ap Some (sym (append-nil xs))

added_after : {X : Type 0} (xs ys : List X) (a b c : Option (List X)) → Added a xs b → Added b ys c → Added a (xs ++ ys) c
added_after xs ys None b c first second = rw (second, first) refl
added_after xs ys (Some held) b c first second = rw (second, first) (ap Some (append_assoc held xs ys))

-- ---- posts

module _ {A : Type 0} (gave : Answering A) where
  pub answers-after : (xs ys : List Post) (a b c : A) → AnswersEach gave xs a b → AnswersEach gave ys b c → AnswersEach gave (xs ++ ys) a c
  answers-after [] ys a b c first second = subst (λ x. AnswersEach gave ys x c) first second
  answers-after (p ∷ ps) ys a b c first second = (first.0, first.1, answers-after ps ys first.0 b c first.2 second)

module _ {A : Type 0} (views : Views A) where
  pub none-made : (a : A) → Makes views a [] a
  none-made a = record { each = refl; told = added_none (views.asked a).posts; calls = refl; faults = no-faults (views.asked a).faults }

  pub more-made : (xs ys : List Post) (a b c : A) → Makes views a xs b → Makes views b ys c → Makes views a (xs ++ ys) c
  more-made xs ys a b c first second = record {
    each = answers-after views.gave xs ys a b c first.each second.each;
    told = added_after xs ys _ _ _ first.told second.told;
    calls =
        second.calls ∙ ap (counted (length ys)) first.calls ∙ counted-plus (length ys) (length xs) (views.asked a).calls
        ∙ ap (λ n. counted n (views.asked a).calls) (sym (length-append xs ys));
    faults = subst (λ n. CountsFaults n (views.asked a).faults (views.asked c).faults) (sym (sum_by-append _ xs ys))
        (more-faults (failures xs) (failures ys) _ _ _ first.faults second.faults);
  }

  -- one call
  module _ (a b : A) (url body : List ℕ) where
    pub page-made : (page : Page) → views.gave a b url body (Ok page) → Asks (views.asked a) url body (Ok page) (views.asked b) → Makes views a (post_of url body (Some page) ∷ []) b
    page-made page gave asks = record {
      each = (b, gave, refl);
      told = asks.posted;
      calls = asks.calls;
      faults = record { rose = let same = asks.cause.counted in omega (arith, same); stays = λ _. asks.cause.counted };
    }

    pub fault-made : views.gave a b url body (Err Failed) → Asks (views.asked a) url body (Err Failed) (views.asked b) → Makes views a (post_of url body None ∷ []) b
    fault-made gave asks = record {
      each = (b, gave, refl);
      told = asks.posted;
      calls = asks.calls;
      faults = one-fault _ _ asks.cause.counted;
    }

    pub memory-wanted : views.gave a b url body (Err Memory) → Asks (views.asked a) url body (Err Memory) (views.asked b) → BreaksOff views 1 a b
    memory-wanted gave asks = record {
      posts = [];
      few = omega arith;
      mid = a;
      made = none-made a;
      last = inr (record { url = url; body = body; gave = gave; asks = asks });
    }

  -- the posts that were made before memory was wanting
  pub made-broken : (most : ℕ) (xs : List Post) (a b : A) → length xs ≤ most → Makes views a xs b → BreaksOff views most a b
  made-broken most xs a b few made = record { posts = xs; few = few; mid = b; made = made; last = inl refl }

  pub later-broken : (first most all : ℕ) (xs : List Post) (a b c : A) → length xs ≤ first → first + most ≤ all → Makes views a xs b → BreaksOff views most b c
      → BreaksOff views all a c
  later-broken first most all xs a b c few fits made broken = record {
    posts = xs ++ broken.posts;
    few = let long = length-append xs broken.posts in let less = broken.few in omega (arith, long, few, less, fits);
    mid = broken.mid;
    made = more-made xs broken.posts a b broken.mid made broken.made;
    last = broken.last;
  }

  pub same-broken : (most : ℕ) (a b : A) → b ≡ a → BreaksOff views most a b
  same-broken most a b same = subst (BreaksOff views most a) (sym same) (made-broken most [] a a (omega arith) (none-made a))
