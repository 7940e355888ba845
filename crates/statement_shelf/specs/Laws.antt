-- What follows for lists of calls on a part of the cache and on the book, whoever made them.
use Rattle.std.specs.Prelude.{◌≡◌, ◌<◌, ◌≤◌, ℕ, List, [], ◌∷◌, ◌++◌, length, All, bytes_eq, cond, Option, Some, None, ⊤}
use Rattle.std.specs.Option.{option_or}
use Rattle.std.specs.Map.{values_of}
use Rattle.jwk_set.specs.declared.set.JwkSet.{JwkSet}
use Rattle.turn_log.specs.Runs.{Runs}
use Rattle.statement_shelf.specs.Entries.{Part, max_entries, max_proved}
use Rattle.statement_shelf.specs.Shelf.{ShelfStep}
use Rattle.statement_shelf.specs.Book.{Book, BookStep, keys_of, opened_with}
use Rattle.statement_shelf.specs.declared.calls.AnchorKeys.{AnchorKeys}
use Rattle.statement_shelf.specs.declared.calls.Proven.{Proven}
use Rattle.statement_shelf.specs.declared.calls.ShelfCall.{ShelfCall}
use Rattle.statement_shelf.specs.declared.calls.ShelfCall.TheVariants.{Look, Put}
use Rattle.statement_shelf.specs.declared.calls.ShelfReply.{ShelfReply}
use Rattle.statement_shelf.specs.declared.calls.ShelfReply.TheVariants.{Hit, Done, Memory}
use Rattle.statement_shelf.specs.declared.calls.BookCall.{BookCall}
use Rattle.statement_shelf.specs.declared.calls.BookCall.TheVariants.{Read, Rotate}
use Rattle.statement_shelf.specs.declared.calls.BookReply.{BookReply}
use Rattle.statement_shelf.specs.declared.calls.BookReply.TheVariants.{Keys, Rotated}

-- ---- the cache

-- the reply shows the text and no key, or tells that memory was wanting
abbrev pub TellsUnproved : List ℕ → ShelfReply → Type 0
TellsUnproved text (Hit proven) = (proven.text ≡ text) × (proven.keys ≡ [])
TellsUnproved text Memory = ⊤
TellsUnproved text reply = ⊥

-- a Look right after a Put of its URL, before the text ends, is told that text, and none of the keys of the one that it replaced
abbrev pub PutIsTold : Type 0
PutIsTold =
    (old new : Part) (url text : List ℕ) (until moment : ℕ) (reply : ShelfReply) → moment < until
    → Runs ShelfStep old ((Put url text until, Done) ∷ (Look url moment, reply) ∷ []) new → TellsUnproved text reply

-- the text and the end that a call put under a URL
abbrev pub put_by : List ℕ → ShelfCall → ShelfReply → Option (List ℕ × ℕ)
put_by url (Put u text until) Done = cond (bytes_eq url u) (Some (text, until)) None
put_by url call reply = None

-- those of the last Put of the URL among these calls
abbrev pub last_put : List ℕ → List (ShelfCall × ShelfReply) → Option (List ℕ × ℕ)
last_put url [] = None
last_put url (e ∷ es) = option_or (last_put url es) (put_by url e.0 e.1)

-- a Hit tells the text of the last Put of its URL, before the end that this Put gave it
abbrev pub HitTellsLastPut : Type 0
HitTellsLastPut =
    (calls : List (ShelfCall × ShelfReply)) (part new : Part) (url : List ℕ) (moment : ℕ) (proven : Proven) → Runs ShelfStep [] calls part
    → ShelfStep part (Look url moment) (Hit proven) new → (until : ℕ) × (last_put url calls ≡ Some (proven.text, until)) × (moment < until)

-- at most 32 entries, of at most four keys each
abbrev pub IsSmall : Part → Type 0
IsSmall part = (length part ≤ max_entries) × All (λ e. length e.keys ≤ max_proved) (values_of part)

-- a part that was empty stays small
abbrev pub PartsStaySmall : Type 0
PartsStaySmall = (calls : List (ShelfCall × ShelfReply)) (part : Part) → Runs ShelfStep [] calls part → IsSmall part

-- ---- the book

-- the epoch never falls
abbrev pub EpochsRise : Type 0
EpochsRise = (calls : List (BookCall × BookReply)) (old new : Book) → Runs BookStep old calls new → old.epoch ≤ new.epoch

-- the keys that a call gave an anchor
abbrev pub rotated_by : List ℕ → BookCall → BookReply → Option JwkSet
rotated_by anchor (Rotate a from keys) (Rotated epoch) = cond (bytes_eq a anchor) (Some keys) None
rotated_by anchor call reply = None

-- those of the last Rotate of the anchor among these calls
abbrev pub last_rotated : List ℕ → List (BookCall × BookReply) → Option JwkSet
last_rotated anchor [] = None
last_rotated anchor (e ∷ es) = option_or (last_rotated anchor es) (rotated_by anchor e.0 e.1)

-- the keys of an anchor after these calls: those of its last Rotate, or those that the book was opened with
abbrev pub standing_keys : List AnchorKeys → List ℕ → List (BookCall × BookReply) → Option JwkSet
standing_keys anchors anchor calls = option_or (last_rotated anchor calls) (keys_of anchor anchors)

-- a Read tells the keys of the last Rotate before it, or those that the book was opened with
abbrev pub ReadTellsLastRotate : Type 0
ReadTellsLastRotate =
    (anchors : List AnchorKeys) (calls : List (BookCall × BookReply)) (book new : Book) (anchor : List ℕ) (epoch : ℕ) (keys : JwkSet) → Runs BookStep (opened_with anchors) calls book
    → BookStep book (Read anchor) (Keys epoch keys) new → standing_keys anchors anchor calls ≡ Some keys

-- a Read's epoch is at least that of the book after any calls before it, as those that its caller had seen
abbrev pub ReadIsAsNew : Type 0
ReadIsAsNew =
    (first last : Book) (seen more : List (BookCall × BookReply)) (anchor : List ℕ) (epoch : ℕ) (keys : JwkSet) → Runs BookStep first (seen ++ (more ++ (Read anchor, Keys epoch keys) ∷ [])) last
    → (book : Book) × Runs BookStep first seen book × (book.epoch ≤ epoch)
