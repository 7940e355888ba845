-- What the issuers of marks tell of them (OpenID Federation 1.0 section 8.4).
use Rattle.std.specs.Prelude.{◌≡◌, ℕ, List, [], ◌∷◌, Bool, true, false, Option, Some, None}
use Rattle.fed_ports.specs.declared.page.Page.{Page}
use Rattle.fed_ports.specs.declared.page.Page.TheVariants.{Document}
use Rattle.entity_statement.specs.declared.marks.MarkEntry.{MarkEntry}
use Rattle.trust_mark.specs.declared.status.MarkStatus.{MarkStatus}
use Rattle.trust_mark.specs.declared.status.MarkStatus.TheVariants as status
use Rattle.mark_status.specs.declared.post.Post.{Post}
use Rattle.mark_status.specs.declared.tell.Tell.{Tell}
use Rattle.mark_status.specs.declared.tell.Tell.TheVariants.{Active, Unasked, Refused, Useless, Fault}
use Rattle.mark_status.specs.Answers.{Asking, asking_of, form_of, tests_of_text, told_by}
use Rattle.mark_status.specs.Posts.{post_of}

-- what an answer of this status tells, and no answer
abbrev pub tell_of_status : Option MarkStatus → Tell
tell_of_status None = Useless
tell_of_status (Some status.Active) = Active
tell_of_status (Some s) = Refused s

-- what a post tells: the text of a page, any other page, or none
abbrev pub tell_of : Asking → Option Page → Tell
tell_of here None = Fault
tell_of here (Some (Document text)) = tell_of_status (told_by here text)
tell_of here (Some page) = Useless

-- how many signatures are tested for it
abbrev pub tests_of : Asking → Option Page → ℕ
tests_of here (Some (Document text)) = tests_of_text here text
tests_of here page = 0

-- what one mark is told: the posts that were made for it, what they tell, and how many signatures were tested
pub record Told : Type 0 where
  pub entry : MarkEntry
  pub posts : List Post
  pub tell : Tell
  pub tests : ℕ

-- where no endpoint is named nothing is posted; else one post of the mark's text is made there, and its page tells
abbrev pub TellsAt : Asking → Option (List ℕ) → Told → Type 0
TellsAt here None told = (told.posts ≡ []) × (told.tell ≡ Unasked) × (told.tests ≡ 0)
TellsAt here (Some url) told =
    (page : Option Page) × (told.posts ≡ post_of url (form_of here.mark) page ∷ []) × (told.tell ≡ tell_of here page) × (told.tests ≡ tests_of here page)

abbrev pub Tells : Asking → Told → Type 0
Tells here told = TellsAt here (here.endpoint) told

-- an entry with the text of its issuer's configuration
abbrev pub Marked : Type 0
Marked = MarkEntry × List ℕ

-- the entry's mark is told this at the moment
pub record IsTold (t : ℕ) (marked : Marked) (told : Told) : Type 0 where
  pub entry : told.entry ≡ marked.0
  pub here : Asking
  pub asks : asking_of marked.0 marked.1 t ≡ Some here
  pub tells : Tells here told

-- a mark that is told so is kept
abbrev pub keeps : Tell → Bool
keeps Active = true
keeps Unasked = true
keeps tell = false

-- a mark that is told so was asked about
abbrev pub is_asked : Tell → Bool
is_asked Unasked = false
is_asked tell = true

-- the post failed
abbrev pub is_fault : Tell → Bool
is_fault Fault = true
is_fault tell = false
