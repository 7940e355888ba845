-- What passes on the shared objects have, object by object: what was seen, calls and shares.
use Rattle.std.specs.Prelude.{◌≡◌, ◌<◌, ℕ, List, [], map}
use Rattle.turn_log.specs.Groups.{part_count}
use Rattle.turn_log.specs.Passes.{OwnsSeen}
use Rattle.turn_log.specs.Runs.{Account}
use Rattle.turn_log.specs.Shares.{IsWhole, all_of, halved}
use Rattle.turn_log.specs.declared.view.Share.{Share}
use Rattle.statement_shelf.specs.Passes.{CommonsKnown}
use Rattle.statement_shelf.specs.declared.calls.ShelfCall.{ShelfCall}
use Rattle.statement_shelf.specs.declared.calls.ShelfReply.{ShelfReply}
use Rattle.statement_shelf.specs.declared.calls.BookCall.{BookCall}
use Rattle.statement_shelf.specs.declared.calls.BookReply.{BookReply}

-- it holds on each shared object: on each part of the cache, and on the book
pub record OnEach (holds : (X Q : Type 0) → (CommonsKnown → Account X Q) → Type 0) : Type 0 where
  pub parts : (p : ℕ) → p < part_count → holds ShelfCall ShelfReply (λ known. known.part p)
  pub book : holds BookCall BookReply (λ known. known.book)

module _ {C R : Type 0} where
  -- the same was seen, and no call is the own
  pub record IsCallless (old new : Account C R) : Type 0 where
    pub seen : new.seen ≡ old.seen
    pub mine : new.mine ≡ []

  -- each of two has half the share
  pub record AreHalves (old one other : Account C R) : Type 0 where
    pub one_half : one.share ≡ halved old.share
    pub other_half : other.share ≡ halved old.share

  -- all of the object is held, and each call that was seen is the own
  pub record OwnsObject (account : Account C R) : Type 0 where
    pub whole : IsWhole account.share
    pub own : OwnsSeen account

-- of each shared object the same was seen, and no call is the own
abbrev pub HasNoCalls : CommonsKnown → CommonsKnown → Type 0
HasNoCalls old new = OnEach (λ X Q on. IsCallless (on old) (on new))

-- each of two has half the share of each object
abbrev pub HaveHalves : CommonsKnown → CommonsKnown → CommonsKnown → Type 0
HaveHalves old one other = OnEach (λ X Q on. AreHalves (on old) (on one) (on other))

-- the shares of an object that passes have, together
abbrev pub shares_on : {X Q : Type 0} → (CommonsKnown → Account X Q) → List CommonsKnown → Share
shares_on {X} {Q} on passes = all_of (map (λ (known : CommonsKnown). (on known).share) passes)

-- where the one pass had all of an object, these have it together
abbrev pub AreShared : CommonsKnown → List CommonsKnown → Type 0
AreShared one passes = OnEach (λ X Q on. IsWhole (on one).share → IsWhole (shares_on on passes))

-- the pass has all of each shared object, and each call that it has seen is its own
abbrev pub OwnsObjects : CommonsKnown → Type 0
OwnsObjects known = OnEach (λ X Q on. OwnsObject (on known))
