-- What an asker posts, and what it tells of that (OpenID Federation 1.0 section 8.4.1).
use Rattle.std.specs.Prelude.{◌≡◌, ◌≤◌, ◌⊎◌, ℕ, List, [], ◌∷◌, length, count_by, Option, Some, None, is_none, Result, Ok, Err}
use Rattle.std.specs.Option.{ok_or}
use Rattle.fed_base.specs.Counts.{counted, next_count}
use Rattle.fed_ports.specs.Lists.{Added}
use Rattle.fed_ports.specs.Webs.{HasLinkCause}
use Rattle.fed_ports.specs.declared.link.LinkFault.{LinkFault}
use Rattle.fed_ports.specs.declared.link.LinkFault.TheVariants.{Failed, Memory}
use Rattle.fed_ports.specs.declared.page.Page.{Page}
use Rattle.mark_status.specs.declared.post.Post.{Post}

-- ---- one call

-- an asker at one moment: how many calls there were, how often one failed, and the posts that were made, in order, where it tells them
pub record Asked : Type 0 where
  pub calls : ℕ
  pub faults : ℕ
  pub posts : Option (List Post)

abbrev pub asked_of : ℕ → ℕ → Option (List Post) → Asked
asked_of calls faults posts = record { calls = calls; faults = faults; posts = posts }

-- a post, with the page that came, and none where the asker failed
abbrev pub post_of : List ℕ → List ℕ → Option Page → Post
post_of url body page = record { url = url; body = body; page = page }

-- the post is told behind those before it, where they are told; one for which memory was wanting isn't
abbrev pub TellsPost : List ℕ → List ℕ → Result Page LinkFault → Option (List Post) → Option (List Post) → Type 0
TellsPost url body (Ok page) old new = Added old (post_of url body (Some page) ∷ []) new
TellsPost url body (Err Failed) old new = Added old (post_of url body None ∷ []) new
TellsPost url body (Err Memory) old new = new ≡ old

-- one call: it is counted, and a failure comes only where the count of faults rose
pub record Asks (old : Asked) (url body : List ℕ) (result : Result Page LinkFault) (new : Asked) : Type 0 where
  pub calls : new.calls ≡ next_count old.calls
  pub posted : TellsPost url body result old.posts new.posts
  pub cause : HasLinkCause old.faults new.faults result

-- ---- several calls

-- what an asker says of one call: how it stood before and after it, the URL, the body, and the answer
abbrev pub Answering : Type 0 → Type 1
Answering A = A → A → List ℕ → List ℕ → Result Page LinkFault → Type 0

-- how an asker is seen, and what it says of its calls
pub record Views (A : Type 0) : Type 1 where
  pub asked : A → Asked
  pub gave : Answering A

abbrev pub views_of : {A : Type 0} → (A → Asked) → Answering A → Views A
views_of asked gave = record { asked = asked; gave = gave }

-- the asker answered these posts one after the other, and no others
abbrev pub AnswersEach : {A : Type 0} → Answering A → List Post → A → A → Type 0
AnswersEach gave [] old new = new ≡ old
AnswersEach {A} gave (p ∷ ps) old new = (mid : A) × gave old mid p.url p.body (ok_or p.page Failed) × AnswersEach gave ps mid new

-- how many of some posts got no page
abbrev pub failures : List Post → ℕ
failures posts = count_by (λ p. is_none p.page) posts

-- the count rose by so many at least, or stands at its last value, and stays where there are none
pub record CountsFaults (failed before now : ℕ) : Type 0 where
  pub rose : counted failed before ≤ now
  pub stays : failed ≡ 0 → now ≡ before

-- these posts were made, and no others
pub record Makes {A : Type 0} (views : Views A) (old : A) (posts : List Post) (new : A) : Type 0 where
  pub each : AnswersEach views.gave posts old new
  pub told : Added (views.asked old).posts posts (views.asked new).posts
  pub calls : (views.asked new).calls ≡ counted (length posts) (views.asked old).calls
  pub faults : CountsFaults (failures posts) (views.asked old).faults (views.asked new).faults

-- a call for which memory was wanting
pub record WantsMemory {A : Type 0} (views : Views A) (old new : A) : Type 0 where
  pub url : List ℕ
  pub body : List ℕ
  pub gave : views.gave old new url body (Err Memory)
  pub asks : Asks (views.asked old) url body (Err Memory) (views.asked new)

-- at most so many posts were made, and for one call more, at most, memory was wanting
pub record BreaksOff {A : Type 0} (views : Views A) (most : ℕ) (old new : A) : Type 0 where
  pub posts : List Post
  pub few : length posts ≤ most
  pub mid : A
  pub made : Makes views old posts mid
  pub last : (new ≡ mid) ⊎ WantsMemory views mid new
