-- Which of the marks that a search returned are kept, by what their issuers tell (OpenID Federation 1.0 sections 7.3 and 8.4).
use Rattle.std.specs.Prelude.{◌≡◌, ◌≤◌, ◌⊎◌, ℕ, List, [], map, sum_by, count_by, filter, filter_map, zip, All, Contains, Option, Some, None}
use Rattle.std.specs.List.{AllZip, flat_map}
use Rattle.std.specs.Option.{option_and_then}
use Rattle.fed_ports.specs.declared.page.Page.TheVariants.{Document}
use Rattle.entity_statement.specs.declared.marks.MarkEntry.{MarkEntry}
use Rattle.trust_mark.specs.Marks.{mark_of}
use Rattle.trust_mark.specs.declared.status.MarkStatus.TheVariants as status
use Rattle.mark_status.specs.declared.heeded.Heeded.{Heeded}
use Rattle.mark_status.specs.declared.post.Post.{Post}
use Rattle.mark_status.specs.declared.tell.Tell.{Tell}
use Rattle.mark_status.specs.declared.tell.Tell.TheVariants.{Active, Unasked}
use Rattle.mark_status.specs.Answers.{Asking, IsAnswer, asking_of, form_of}
use Rattle.mark_status.specs.Posts.{Makes, Views, post_of}
use Rattle.mark_status.specs.Tells.{IsTold, Marked, Told, is_asked, is_fault, keeps}
use Rattle.fed_base.specs.Counts.{counted}

-- the returned marks with their issuers' configurations, and the moment
pub record Heeding : Type 0 where
  pub marked : List Marked
  pub moment : ℕ

abbrev pub heeding_of : List MarkEntry → List (List ℕ) → ℕ → Heeding
heeding_of marks configs t = record { marked = zip marks configs; moment = t }

-- when an entry's mark ends, where it does (section 7.1, `exp`)
abbrev pub end_of : MarkEntry → Option ℕ
end_of entry = option_and_then (λ m. m.exp) (mark_of entry.text)

-- the least of some numbers, where there is one
abbrev pub IsLeast : List ℕ → Option ℕ → Type 0
IsLeast ns None = ns ≡ []
IsLeast ns (Some least) = Contains ns least × All (λ n. least ≤ n) ns

-- what is heeded by these posts, for which so many signatures were tested: the marks are told one by one, in order; those that were
-- answered active or aren't asked about are kept, and the least of their ends
pub record Heeds (here : Heeding) (posts : List Post) (tests : ℕ) (heeded : Heeded) : Type 0 where
  pub told : List Told
  pub each : AllZip (IsTold here.moment) here.marked told
  pub posts_are : posts ≡ flat_map (λ w. w.posts) told
  pub tests_are : tests ≡ sum_by (λ w. w.tests) told
  pub tells_are : heeded.tells ≡ map (λ w. w.tell) told
  pub kept_are : heeded.kept ≡ map (λ w. w.entry) (filter (λ w. keeps w.tell) told)
  pub exp_is : IsLeast (filter_map end_of heeded.kept) heeded.exp

-- ---- the call

-- an asker, and how many signatures were tested, at one moment
pub record Around (A : Type 0) : Type 0 where
  pub asker : A
  pub tests : ℕ

abbrev pub around : {A : Type 0} → A → ℕ → Around A
around asker tests = record { asker = asker; tests = tests }

-- what was heeded between two moments: the posts that were made, and the signatures that were tested for them
pub record HeedsBy {A : Type 0} (views : Views A) (here : Heeding) (old new : Around A) (heeded : Heeded) : Type 0 where
  pub posts : List Post
  pub tests : ℕ
  pub heeds : Heeds here posts tests heeded
  pub made : Makes views old.asker posts new.asker
  pub tested : new.tests ≡ counted tests old.tests

-- how many tells come of a post, and of one that failed
abbrev pub asked_in : List Tell → ℕ
asked_in tells = count_by is_asked tells

abbrev pub faults_in : List Tell → ℕ
faults_in tells = count_by is_fault tells

-- ---- what follows

-- the mark was answered active by its issuer, at the endpoint that its configuration names
pub record IsActive (here : Asking) (posts : List Post) : Type 0 where
  pub url : List ℕ
  pub named : here.endpoint ≡ Some url
  pub text : List ℕ
  pub posted : Contains posts (post_of url (form_of here.mark) (Some (Document text)))
  pub answered : IsAnswer here text status.Active

-- the entry is one of the returned marks, and it was answered active, or its issuer names no endpoint
pub record IsKept (here : Heeding) (posts : List Post) (entry : MarkEntry) : Type 0 where
  pub config : List ℕ
  pub returned : Contains here.marked (entry, config)
  pub asks : Asking
  pub reads : asking_of entry config here.moment ≡ Some asks
  pub stands : (asks.endpoint ≡ None) ⊎ IsActive asks posts

-- the entry is kept, or what it was told is neither that it is active nor that it isn't asked about
abbrev pub IsKeptOrTold : List MarkEntry → Heeded → MarkEntry → Type 0
IsKeptOrTold marks heeded entry =
    Contains heeded.kept entry ⊎ ((tell : Tell) × Contains (zip marks heeded.tells) (entry, tell) × (¬ (tell ≡ Active)) × (¬ (tell ≡ Unasked)))
