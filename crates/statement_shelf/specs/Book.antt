-- The book of trust anchors as a plain list with one epoch, and what each call replies and leaves (OpenID Federation 1.0 section 11.1).
use Rattle.std.specs.Prelude.{◌≡◌, ◌≢◌, ◌<◌, ◌⊎◌, ◌+◌, ℕ, List, [], ◌∷◌, bytes_eq, Option, Some, None, IsSome, cond}
use Rattle.jwk_set.specs.declared.set.JwkSet.{JwkSet}
use Rattle.statement_shelf.specs.declared.calls.AnchorKeys.{AnchorKeys}
use Rattle.statement_shelf.specs.declared.calls.BookCall.{BookCall}
use Rattle.statement_shelf.specs.declared.calls.BookCall.TheVariants.{Read, Epoch, Rotate}
use Rattle.statement_shelf.specs.declared.calls.BookReply.{BookReply}
use Rattle.statement_shelf.specs.declared.calls.BookReply.TheVariants.{Keys, At, Rotated, Behind, NoAnchor, Memory}

-- the anchors with their keys, and how many rotations there were
pub record Book : Type 0 where
  pub anchors : List AnchorKeys
  pub epoch : ℕ

-- the book as it is opened
abbrev pub opened_with : List AnchorKeys → Book
opened_with anchors = record { anchors = anchors; epoch = 0 }

-- the last epoch: 2^62
abbrev pub last_epoch : ℕ
last_epoch = 4611686018427387904

-- the keys of an anchor, where it is listed
abbrev pub keys_of : List ℕ → List AnchorKeys → Option JwkSet
keys_of anchor [] = None
keys_of anchor (a ∷ anchors) = cond (bytes_eq a.anchor anchor) (Some a.keys) (keys_of anchor anchors)

-- the list with other keys of an anchor
abbrev pub with_keys : List ℕ → JwkSet → List AnchorKeys → List AnchorKeys
with_keys anchor keys [] = []
with_keys anchor keys (a ∷ anchors) = cond (bytes_eq a.anchor anchor) (record { anchor = anchor; keys = keys } ∷ anchors) (a ∷ with_keys anchor keys anchors)

-- a rotation from this epoch comes too late, or no epoch is left
abbrev pub IsBehind : Book → ℕ → Type 0
IsBehind book from = (from ≢ book.epoch) ⊎ (book.epoch ≡ last_epoch)

-- the keys of the anchor were replaced, and the epoch rose by one
pub record IsRotated (old : Book) (anchor : List ℕ) (from : ℕ) (keys : JwkSet) (epoch : ℕ) (new : Book) : Type 0 where
  pub listed : IsSome (keys_of anchor old.anchors)
  pub now : from ≡ old.epoch
  pub room : old.epoch < last_epoch
  pub rose : epoch ≡ old.epoch + 1
  pub is : new ≡ record { anchors = with_keys anchor keys old.anchors; epoch = old.epoch + 1 }

-- the old book, the call, its reply and the new book
abbrev pub BookStep : Book → BookCall → BookReply → Book → Type 0
BookStep old (Read anchor) (Keys epoch keys) new = (keys_of anchor old.anchors ≡ Some keys) × (epoch ≡ old.epoch) × (new ≡ old)
BookStep old (Read anchor) NoAnchor new = (keys_of anchor old.anchors ≡ None) × (new ≡ old)
BookStep old (Read anchor) Memory new = new ≡ old
BookStep old Epoch (At epoch) new = (epoch ≡ old.epoch) × (new ≡ old)
BookStep old (Rotate anchor from keys) NoAnchor new = (keys_of anchor old.anchors ≡ None) × (new ≡ old)
BookStep old (Rotate anchor from keys) (Behind epoch) new = IsSome (keys_of anchor old.anchors) × IsBehind old from × (epoch ≡ old.epoch) × (new ≡ old)
BookStep old (Rotate anchor from keys) (Rotated epoch) new = IsRotated old anchor from keys epoch new
BookStep old (Rotate anchor from keys) Memory new = new ≡ old
BookStep old call reply new = ⊥
