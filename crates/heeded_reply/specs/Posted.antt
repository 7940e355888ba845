-- What the posts of a call got from a network, exchange by exchange (OpenID Federation 1.0 section 8.4.1).
use Rattle.std.specs.Prelude.{◌≡◌, ◌≤◌, ◌⊎◌, ℕ, List, [], ◌∷◌, length, Option}
use Rattle.std.specs.Option.{ok_or}
use Rattle.fed_ports.specs.Exchanges.{Exchange}
use Rattle.fed_ports.specs.declared.link.LinkFault.TheVariants.{Failed}
use Rattle.http_plain.specs.declared.route.Route.{Route}
use Rattle.http_plain.specs.Clients.{post_of}
use Rattle.http_plain.specs.Links.{AnswersBy, LeavesPost}
use Rattle.mark_status.specs.declared.post.Post.{Post}

-- the exchanges of a network, where it tells them, and how often it failed
pub record Wire : Type 0 where
  pub exchanges : Option (List Exchange)
  pub faults : ℕ

abbrev pub wire : Option (List Exchange) → ℕ → Wire
wire exchanges faults = record { exchanges = exchanges; faults = faults }

-- what one post got: its page is that of the URL, of the routes, of the form and of the one exchange that was added, and without a route
-- none was; where the post failed, at most one was added, of the URL's address
abbrev pub PostedFor : List Route → Post → Option (List Exchange) → Option (List Exchange) → Type 0
PostedFor routes p old new = AnswersBy (post_of p.body) routes p.url old new (ok_or p.page Failed)

-- the exchanges that were added are those of these posts, in order, and no others
abbrev pub Posted : List Route → List Post → Option (List Exchange) → Option (List Exchange) → Type 0
Posted routes [] old new = new ≡ old
Posted routes (p ∷ posts) old new = (mid : Option (List Exchange)) × PostedFor routes p old mid × Posted routes posts mid new

-- those of some posts, so many at most, and one exchange more at most, of a post for which memory was wanting
pub record PostedSome (routes : List Route) (most : ℕ) (old new : Option (List Exchange)) : Type 0 where
  pub posts : List Post
  pub few : length posts ≤ most
  pub mid : Option (List Exchange)
  pub posted : Posted routes posts old mid
  pub last : (new ≡ mid) ⊎ ((url : List ℕ) × (form : List ℕ) × LeavesPost form routes url mid new)
